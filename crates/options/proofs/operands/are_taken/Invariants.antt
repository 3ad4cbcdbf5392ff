use Rattle.options.proofs.Known.{◌≡◌, ◌≤◌, ◌-◌, length, drop, list_all, is_taken}
use Rattle.options.proofs.operands.are_taken.Given as goal

abbrev pub invariant-loop-at : goal.invariant-loop-at
invariant-loop-at l = record {
  within : l.at ≤ length l.items;
  same : list_all is_taken (drop l.at l.items) ≡ list_all is_taken l.items;
}

abbrev pub decreases-loop-at : goal.decreases-loop-at
decreases-loop-at l = length l.items - l.at
