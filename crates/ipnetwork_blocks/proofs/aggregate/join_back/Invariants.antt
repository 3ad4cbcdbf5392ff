use Rattle.ipnetwork_blocks.proofs.Known.{map, IsJoining}
use Rattle.ipnetwork_blocks.proofs.aggregate.join_back.Given as goal

abbrev pub invariant-loop-left : goal.invariant-loop-left
invariant-loop-left g l = IsJoining g.N.CidrNetwork.WIDTH (map g.H.HoldsNetwork.held l.front)
    (g.N.CidrNetwork.pair l.fn.block) l.left (g.N.CidrNetwork.pair l.joined)

abbrev pub decreases-loop-left : goal.decreases-loop-left
decreases-loop-left g l = l.left
