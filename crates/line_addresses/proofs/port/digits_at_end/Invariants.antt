use Rattle.line_addresses.proofs.Known.{◌≡◌, ℕ, ◌<◌, ◌≤◌, length, slice_index, is_ascii_digit}
use Rattle.std.specs.Prelude.{true}
use Rattle.line_addresses.proofs.port.digits_at_end.Given as goal

abbrev pub invariant-digits : goal.invariant-digits
invariant-digits l = record {
  within : l.at ≤ length l.text;
  digits : (position : ℕ) → l.at ≤ position → position < length l.text
      → is_ascii_digit (slice_index l.text position) ≡ true;
}

abbrev pub decreases-digits : goal.decreases-digits
decreases-digits l = l.at
