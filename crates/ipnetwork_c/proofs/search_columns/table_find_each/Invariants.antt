use Rattle.ipnetwork_c.proofs.Known.{get_or, AnswersEach, TableQuery}
use Rattle.ipnetwork_c.proofs.search_columns.table_find_each.Given as goal

abbrev pub invariant-loop-row : goal.invariant-loop-row
invariant-loop-row g l =
    AnswersEach (λ i. TableQuery g.N.CidrNetwork.WIDTH g.H.HoldsNetwork.held l.blocks (g.H.Numbered.meant
    (get_or l.addresses i g.H.Numbered.no_octets))) l.row l.initial.places l.places l.initial.faults l.faults
