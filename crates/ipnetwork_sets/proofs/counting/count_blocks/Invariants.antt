use Rattle.ipnetwork_sets.proofs.Known.{◌≡◌, map, take, count_number, total, capped}
use Rattle.ipnetwork_sets.proofs.counting.count_blocks.Given as goal

abbrev pub invariant-loop-block : goal.invariant-loop-block
invariant-loop-block g l = count_number l.count ≡ capped
    (total g.N.CidrNetwork.WIDTH (take l.block-index (map g.N.CidrNetwork.pair l.blocks)))
