use Rattle.ipnetwork_sets.proofs.Known.{length, IsRunning}
use Rattle.ipnetwork_sets.proofs.ranges.last_of_run.Given as goal

abbrev pub invariant-loop-block : goal.invariant-loop-block
invariant-loop-block g l = IsRunning g.N.CidrNetwork.WIDTH (g.N.CidrNetwork.pair l.fn.first)
    (g.B.SetBlocks.left l.initial.blocks) (g.N.CidrNetwork.pair l.last) (g.B.SetBlocks.left l.blocks)

abbrev pub decreases-loop-block : goal.decreases-loop-block
decreases-loop-block g l = length (g.B.SetBlocks.left l.blocks)
