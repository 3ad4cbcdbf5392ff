use Rattle.options.proofs.Known.{◌≡◌, ◌≤◌, ◌-◌, length, drop, list_all, is_right_item}
use Rattle.options.proofs.faults.first_fault.Given as goal

abbrev pub invariant-loop-at : goal.invariant-loop-at
invariant-loop-at l = record {
  within : l.at ≤ length l.items;
  same : list_all (is_right_item l.rows l.of_files) (drop l.at l.items)
      ≡ list_all (is_right_item l.rows l.of_files) l.items;
}

abbrev pub decreases-loop-at : goal.decreases-loop-at
decreases-loop-at l = length l.items - l.at
