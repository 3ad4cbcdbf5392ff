use Rattle.line_addresses.proofs.Known.{◌≡◌, ℕ, ◌<◌, ◌≤◌, false, not, slice_index, is_stretch_byte}
use Rattle.line_addresses.proofs.stretches.stretch_end.Given as goal

abbrev pub invariant-loop-at : goal.invariant-loop-at
invariant-loop-at l = (position : ℕ) → l.start ≤ position → position < l.at
    → not (is_stretch_byte (slice_index l.line position)) ≡ false
