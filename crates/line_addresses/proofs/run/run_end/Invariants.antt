use Rattle.line_addresses.proofs.Known.{◌≡◌, ℕ, ◌<◌, ◌≤◌, false, not, slice_index, is_run_byte}
use Rattle.line_addresses.proofs.run.run_end.Given as goal

abbrev pub invariant-loop-at : goal.invariant-loop-at
invariant-loop-at l = (position : ℕ) → l.start ≤ position → position < l.at
    → not (is_run_byte (slice_index l.line position)) ≡ false
