use Rattle.cidr_join.proofs.Known.{not_empty, stands_for_none, stands_for_some}
use Rattle.cidr_join.proofs.value_ids.ValueIds.number_of.Goals as goal

pub returns-in-Some : goal.returns-in-Some
returns-in-Some c by numbering =
    rw c.in-Some.is (stands_for_some by c.args.mapped c.args.self.now c.in-Some.asked c.number_for.result
    (not_empty c.args.self.now c.is_empty.result c.is_empty.ensures c.if-is_empty.false)
    c.number_for.ensures numbering)

pub returns-in-None : goal.returns-in-None
returns-in-None c by numbering =
    rw c.in-None.is (stands_for_none by c.args.mapped c.args.self.now
    (not_empty c.args.self.now c.is_empty.result c.is_empty.ensures c.if-is_empty.false) numbering)
