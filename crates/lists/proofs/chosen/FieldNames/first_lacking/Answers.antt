use Rattle.lists.proofs.Known.{arith, map, view, none_named, some_named}
use Rattle.lists.proofs.chosen.FieldNames.first_lacking.Goals as goal

pub returns-then-is_empty : goal.returns-then-is_empty
returns-then-is_empty c =
    none_named c.self.inside.names.now c.args.self.now (map view c.args.documents.now)
    (grind (arith, c.if-is_empty.true, c.is_empty.ensures)) (grind (arith, c.self.view_is))

pub returns : goal.returns
returns c =
    some_named c.self.inside.names.now c.args.self.now (map view c.args.documents.now) c.first_without.result
    (grind (arith, c.if-is_empty.false, c.is_empty.ensures)) (grind (arith, c.self.view_is)) c.first_without.ensures
