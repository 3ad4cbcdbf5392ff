use Rattle.cidr_merge.proofs.Known.{◌≡◌, ◌≤◌, ◌-◌, ◌++◌, drop, length, map, string_bytes, lists_of}
use Rattle.cidr_merge.proofs.named_lists.lists_of.Given as goal

abbrev pub invariant-loop-at : goal.invariant-loop-at
invariant-loop-at l = record {
  within : l.at ≤ length l.items;
  same : map string_bytes l.lists.items ++ lists_of (drop l.at l.items) ≡ lists_of l.items;
}

abbrev pub decreases-loop-at : goal.decreases-loop-at
decreases-loop-at l = length l.items - l.at
