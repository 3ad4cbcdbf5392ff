use Rattle.allotting.proofs.Known.{◌≤◌, ◌-◌, InFirstAlone, IsPlacing}
use Rattle.allotting.proofs.placed.places.Given as goal

abbrev pub invariant-loop-prefix : goal.invariant-loop-prefix
invariant-loop-prefix g l = record {
  within : l.prefix ≤ 256;
  placed : IsPlacing g.N.CidrNetwork.pair g.N.CidrNetwork.WIDTH l.initial.pool l.used
      (InFirstAlone g.N.CidrNetwork.WIDTH l.pool l.used) l.lengths l.places.items l.prefix 0;
}

abbrev pub decreases-loop-prefix : goal.decreases-loop-prefix
decreases-loop-prefix g l = 256 - l.prefix
