use Rattle.byte_search.proofs.Known.{◌-◌, ◌≤◌, length, IsAbsent}
use Rattle.byte_search.proofs.find_far.Given as goal

abbrev pub invariant-searching : goal.invariant-searching
invariant-searching l = record {
  low : l.from ≤ l.at;
  within : l.at ≤ length l.text;
  seen : IsAbsent l.byte l.text l.from l.at;
}

abbrev pub decreases-searching : goal.decreases-searching
decreases-searching l = length l.text - l.at
