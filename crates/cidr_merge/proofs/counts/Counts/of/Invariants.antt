use Rattle.cidr_merge.proofs.Known.{◌≡◌, ◌≤◌, ◌+◌, ◌-◌, ◌^◌, length, min, count_number, total, blocks_left}
use Rattle.cidr_merge.proofs.counts.Counts.of.Given as goal

abbrev pub invariant-loop-block : goal.invariant-loop-block
invariant-loop-block g l = record {
  blocks : min (l.count + length (blocks_left l.blocks)) (2 ^ 128 - 1) ≡ min
      (length (blocks_left l.initial.blocks)) (2 ^ 128 - 1);
  addresses : min (count_number l.addresses + total g.N.CidrNetwork.WIDTH (blocks_left l.blocks))
      (2 ^ 128)
      ≡ min (total g.N.CidrNetwork.WIDTH (blocks_left l.initial.blocks)) (2 ^ 128);
  fits : l.count ≤ 2 ^ 128 - 1;
  within : count_number l.addresses ≤ 2 ^ 128;
}

abbrev pub decreases-loop-block : goal.decreases-loop-block
decreases-loop-block g l = length (blocks_left l.blocks)
