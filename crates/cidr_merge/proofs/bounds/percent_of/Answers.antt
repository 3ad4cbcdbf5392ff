use Rattle.cidr_merge.proofs.Known.{arith, count_number, percent_parts, percent_sum}
use Rattle.cidr_merge.proofs.bounds.percent_of.Goals as goal

pub returns-in-Some : goal.returns-in-Some
returns-in-Some c =
    let cut = c.in_hundreds-hundreds in
    percent_sum c.args.percent (count_number c.args.count) cut.result.0 cut.result.1 _ _ cut.ensures.all
    c.in-Some.ensures.1 c.checked_add.ensures

pub returns-in-None : goal.returns-in-None
returns-in-None c =
    let cut = c.in_hundreds-hundreds in
    let parts = percent_parts c.args.percent (count_number c.args.count) cut.result.0 cut.result.1 cut.ensures.all in
    λ l. c.in-None.ensures (omega (arith, parts, l))
