use Rattle.cidr_merge.proofs.Known.{◌≡◌, ◌≤◌, ◌-◌, ◌++◌, drop, length, map, string_bytes, fields_of}
use Rattle.cidr_merge.proofs.field_names.fields_of.Given as goal

abbrev pub invariant-loop-at : goal.invariant-loop-at
invariant-loop-at l = record {
  within : l.at ≤ length l.items;
  same : map string_bytes l.fields.items ++ fields_of (drop l.at l.items) ≡ fields_of l.items;
}

abbrev pub decreases-loop-at : goal.decreases-loop-at
decreases-loop-at l = length l.items - l.at
