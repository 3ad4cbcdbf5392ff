use Rattle.ipnetwork_blocks.proofs.Known.{map, All, IsPassing}
use Rattle.ipnetwork_blocks.proofs.aggregate.join_sorted.Given as goal

abbrev pub invariant-loop-next : goal.invariant-loop-next
invariant-loop-next g l = All g.H.HoldsNetwork.holds l.values
    × IsPassing g.N.CidrNetwork.WIDTH (map g.H.HoldsNetwork.held l.initial.values) (map g.H.HoldsNetwork.held l.values)
    l.next l.kept
