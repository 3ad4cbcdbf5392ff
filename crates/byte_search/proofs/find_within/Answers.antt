use Rattle.byte_search.proofs.Known.{unmarked, first_marked}
use Rattle.byte_search.proofs.find_within.Goals as goal

pub returns-then-lanes-eq0 : goal.returns-then-lanes-eq0
returns-then-lanes-eq0 g c =
    unmarked c.args.byte c.args.text.now c.args.at g.row.N _ c.requires.within c.requires.few c.marks_of-lanes.ensures
    c.if-lanes-eq0.true

pub returns : goal.returns
returns g c =
    first_marked c.args.byte c.args.text.now c.args.at g.row.N _ c.requires.within c.requires.few
    c.marks_of-lanes.ensures c.if-lanes-eq0.false
