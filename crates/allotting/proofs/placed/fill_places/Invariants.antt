use Rattle.allotting.proofs.Known.{◌≡◌, ◌≤◌, ◌-◌, InFirstAlone, IsFilling, IsPlacing, List, Network, length, map}
use Rattle.allotting.proofs.placed.fill_places.Given as goal

abbrev pub invariant-loop-at : goal.invariant-loop-at
invariant-loop-at g l = record {
  kept : length l.places ≡ length l.initial.places;
  within : l.at ≤ length l.lengths;
  filling : (first : List Network) → IsPlacing g.N.CidrNetwork.pair g.N.CidrNetwork.WIDTH first l.used
      (InFirstAlone g.N.CidrNetwork.WIDTH l.pool l.used) l.lengths l.initial.places l.prefix 0
      → IsFilling g.N.CidrNetwork.pair g.N.CidrNetwork.WIDTH first l.pool l.used
      (map g.N.CidrNetwork.pair l.taken.items) l.blocks l.lengths l.places l.prefix l.at;
}

abbrev pub decreases-loop-at : goal.decreases-loop-at
decreases-loop-at g l = length l.lengths - l.at
