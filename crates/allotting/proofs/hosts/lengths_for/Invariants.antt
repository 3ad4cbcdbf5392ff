use Rattle.allotting.proofs.Known.{◌≡◌, ℕ, ◌-◌, ◌<◌, ◌≤◌, IsLengthFor, get_or, length}
use Rattle.allotting.proofs.hosts.lengths_for.Given as goal

abbrev pub invariant-loop-at : goal.invariant-loop-at
invariant-loop-at g l = record {
  within : l.at ≤ length l.numbers;
  one_each : length l.lengths.items ≡ l.at;
  lengths : (i : ℕ) → i < l.at
      → IsLengthFor g.N.CidrNetwork.WIDTH (get_or l.numbers i 0) (get_or l.lengths.items i 0);
}

abbrev pub decreases-loop-at : goal.decreases-loop-at
decreases-loop-at g l = length l.numbers - l.at
