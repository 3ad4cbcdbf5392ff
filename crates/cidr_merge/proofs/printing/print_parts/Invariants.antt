use Rattle.cidr_merge.proofs.Known.{length, merged_by, with_head, Printed}
use Rattle.cidr_merge.proofs.printing.print_parts.Given as goal

abbrev pub invariant-loop-next : goal.invariant-loop-next
invariant-loop-next g l =
    Printed (g.P.Parts.line l.names l.operation)
    (merged_by g.P.Parts.begin (with_head g.P.Parts.seen l.initial.parts.first
    (g.P.Parts.left l.initial.parts.firsts)) (with_head g.P.Parts.seen l.initial.parts.second
    (g.P.Parts.left l.initial.parts.seconds)))
    (merged_by g.P.Parts.begin (with_head g.P.Parts.seen l.parts.first
    (g.P.Parts.left l.parts.firsts)) (with_head g.P.Parts.seen l.parts.second
    (g.P.Parts.left l.parts.seconds))) l.initial.output l.output

abbrev pub decreases-loop-next : goal.decreases-loop-next
decreases-loop-next g l =
    length (merged_by g.P.Parts.begin (with_head g.P.Parts.seen l.parts.first
    (g.P.Parts.left l.parts.firsts)) (with_head g.P.Parts.seen l.parts.second
    (g.P.Parts.left l.parts.seconds)))
