use Rattle.ipnetwork_sets.proofs.Known.{◌≤◌, length, map, vec_capacity, IsCollected}
use Rattle.ipnetwork_sets.proofs.collecting.collected.Given as goal

abbrev pub invariant-loop-block : goal.invariant-loop-block
invariant-loop-block g l = record {
  all : IsCollected g.N.CidrNetwork.WIDTH (map g.N.CidrNetwork.pair l.memory.items) (g.B.SetBlocks.left l.blocks)
      (g.B.SetBlocks.left l.fn.blocks);
  room : vec_capacity l.fn.memory ≤ vec_capacity l.memory;
}

abbrev pub decreases-loop-block : goal.decreases-loop-block
decreases-loop-block g l = length (g.B.SetBlocks.left l.blocks)
