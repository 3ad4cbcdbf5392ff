use Rattle.line_addresses.proofs.Known.{◌≡◌, ℕ, ◌<◌, ◌≤◌, false, slice_index, is_blank}
use Rattle.line_addresses.proofs.word.word_end.Given as goal

abbrev pub invariant-loop-at : goal.invariant-loop-at
invariant-loop-at l = (position : ℕ) → l.start ≤ position → position < l.at
    → is_blank (slice_index l.line position) ≡ false
