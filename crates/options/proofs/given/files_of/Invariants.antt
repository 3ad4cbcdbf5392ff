use Rattle.options.proofs.Known.{◌≡◌, ◌≤◌, ◌-◌, ◌++◌, length, drop, map, string_bytes, files_of}
use Rattle.options.proofs.given.files_of.Given as goal

abbrev pub invariant-loop-at : goal.invariant-loop-at
invariant-loop-at l = record {
  within : l.at ≤ length l.items;
  same : map string_bytes l.files.items ++ files_of (drop l.at l.items) ≡ files_of l.items;
}

abbrev pub decreases-loop-at : goal.decreases-loop-at
decreases-loop-at l = length l.items - l.at
