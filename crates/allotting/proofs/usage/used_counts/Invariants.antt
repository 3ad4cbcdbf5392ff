use Rattle.allotting.proofs.Known.{◌≤◌, ◌-◌, IsCounting, at_hand, count_number, length, map}
use Rattle.allotting.proofs.usage.used_counts.Given as goal

abbrev pub invariant-loop-at : goal.invariant-loop-at
invariant-loop-at g l = record {
  within : l.at ≤ length l.blocks;
  counting : IsCounting g.N.CidrNetwork.WIDTH l.pool l.used (at_hand g.N.CidrNetwork.pair l.next l.pieces)
      (map (λ one. (g.N.CidrNetwork.pair one.0, count_number one.1)) l.usage.items) l.at;
}

abbrev pub decreases-loop-at : goal.decreases-loop-at
decreases-loop-at g l = length l.blocks - l.at
