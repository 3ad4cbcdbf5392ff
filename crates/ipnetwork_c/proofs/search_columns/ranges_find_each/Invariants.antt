use Rattle.ipnetwork_c.proofs.Known.{get_or, AnswersEach, RangeQuery}
use Rattle.ipnetwork_c.proofs.search_columns.ranges_find_each.Given as goal

abbrev pub invariant-loop-row : goal.invariant-loop-row
invariant-loop-row g l =
    AnswersEach (λ i. RangeQuery g.H.HoldsNetwork.held l.ranges l.told (g.H.Numbered.meant
    (get_or l.addresses i g.H.Numbered.no_octets))) l.row l.initial.places l.places l.initial.faults l.faults
