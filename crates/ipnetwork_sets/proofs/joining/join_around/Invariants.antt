use Rattle.ipnetwork_sets.proofs.Known.{◌+◌, ◌-◌, length, map, IsJoinedTo}
use Rattle.ipnetwork_sets.proofs.joining.join_around.Given as goal

abbrev pub invariant-loop-wider : goal.invariant-loop-wider
invariant-loop-wider g l = IsJoinedTo g.N.CidrNetwork.WIDTH (map g.N.CidrNetwork.pair l.blocks)
    (g.N.CidrNetwork.pair l.fn.network) l.first l.behind (g.N.CidrNetwork.pair l.joined)

abbrev pub decreases-loop-wider : goal.decreases-loop-wider
decreases-loop-wider g l = l.first + (length (map g.N.CidrNetwork.pair l.blocks) - l.behind)
