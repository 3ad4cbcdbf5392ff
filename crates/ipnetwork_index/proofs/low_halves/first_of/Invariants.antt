use Rattle.ipnetwork_index.proofs.Known.{◌-◌, ◌≤◌, length, AreBefore}
use Rattle.ipnetwork_index.proofs.low_halves.first_of.Given as goal

abbrev pub invariant-loop-at : goal.invariant-loop-at
invariant-loop-at l = record {
  within : l.at ≤ length l.numbers;
  before : AreBefore l.numbers l.shift l.part l.at;
}

abbrev pub decreases-loop-at : goal.decreases-loop-at
decreases-loop-at l = length l.numbers - l.at
