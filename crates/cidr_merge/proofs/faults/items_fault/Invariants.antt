use Rattle.cidr_merge.proofs.Known.{◌≡◌, ◌≤◌, ◌-◌, length, drop, list_any, is_wrong}
use Rattle.cidr_merge.proofs.faults.items_fault.Given as goal

abbrev pub invariant-loop-at : goal.invariant-loop-at
invariant-loop-at l = record {
  within : l.at ≤ length l.items;
  same : list_any (is_wrong l.task) (drop l.at l.items) ≡ list_any (is_wrong l.task) l.items;
}

abbrev pub decreases-loop-at : goal.decreases-loop-at
decreases-loop-at l = length l.items - l.at
