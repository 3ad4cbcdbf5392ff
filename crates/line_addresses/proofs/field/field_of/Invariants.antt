use Rattle.line_addresses.proofs.Known.{◌≡◌, ◌≤◌, length, drop, slice_get, field_of, fields_of}
use Rattle.line_addresses.proofs.field.field_of.Given as goal

abbrev pub invariant-loop-more : goal.invariant-loop-more
invariant-loop-more l = record {
  within : l.start ≤ length l.line;
  same : field_of l.number l.separator l.line ≡ slice_get
      (fields_of l.separator (drop l.start l.line)) l.more;
}

abbrev pub decreases-loop-more : goal.decreases-loop-more
decreases-loop-more l = l.more
