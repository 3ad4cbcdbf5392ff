use Rattle.line_addresses.proofs.Known.{◌≡◌, ℕ, ◌-◌, ◌<◌, ◌≤◌, false, length, take, reverse, slice_get, slice_index, cuts, parts_of}
use Rattle.line_addresses.proofs.from_end.part_from_end.Given as goal

abbrev pub invariant-bytes : goal.invariant-bytes
invariant-bytes l = record {
  ordered : l.at ≤ l.end;
  within : l.end ≤ length l.line;
  uncut : (position : ℕ) → l.at ≤ position → position < l.end
      → cuts l.separator (slice_index l.line position) ≡ false;
  same : slice_get (reverse (parts_of l.separator l.line)) (l.number - 1)
      ≡ slice_get (reverse (parts_of l.separator (take l.end l.line))) l.more;
}

abbrev pub decreases-bytes : goal.decreases-bytes
decreases-bytes l = l.at
