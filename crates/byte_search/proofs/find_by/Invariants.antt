use Rattle.byte_search.proofs.Known.{◌-◌, ◌≤◌, length, IsAbsent}
use Rattle.byte_search.proofs.find_by.Given as goal

abbrev pub invariant-loop-at : goal.invariant-loop-at
invariant-loop-at g l = record {
  low : l.from ≤ l.at;
  within : l.at ≤ length l.text;
  seen : IsAbsent l.byte l.text l.from l.at;
}

abbrev pub decreases-loop-at : goal.decreases-loop-at
decreases-loop-at g l = length l.text - l.at
