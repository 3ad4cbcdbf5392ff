use Rattle.ipnetwork_blocks.proofs.Known.{map, All, IsClearing}
use Rattle.ipnetwork_blocks.proofs.aggregate.clear_host_bits.Given as goal

abbrev pub invariant-loop-value : goal.invariant-loop-value
invariant-loop-value g l = All g.H.HoldsNetwork.holds l.values × IsClearing g.N.CidrNetwork.WIDTH
    (map g.H.HoldsNetwork.held l.initial.values) (map g.H.HoldsNetwork.held l.values) l.value-index
