use Rattle.ipnetwork_c.proofs.Known.{ℕ, ◌+◌, ◌-◌, ◌/◌, ◌^◌, ◌<◌, ◌≤◌, map, span}
use Rattle.ipnetwork_c.proofs.index_making.least_shift.Given as goal

abbrev pub invariant-loop-shift : goal.invariant-loop-shift
invariant-loop-shift g l = record {
  narrow : l.shift ≤ l.half + 1;
  more : (smaller : ℕ) → smaller < l.shift → l.count ≤ span (map g.H.HoldsNetwork.held l.list) / 2 ^ smaller;
}

abbrev pub decreases-loop-shift : goal.decreases-loop-shift
decreases-loop-shift g l = l.half + 1 - l.shift
