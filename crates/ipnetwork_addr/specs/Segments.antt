-- A 128-bit address as eight segments of 16 bits, highest first (RFC 4291, section 2.2).
use Rattle.std.specs.Prelude.{◌≡◌, ℕ, ◌^◌, ◌<◌, List, length, slice_index}
use Rattle.std.specs.Int.Digits.{number_from_digits}

-- the address with these segments
abbrev pub number_of_segments : List ℕ → ℕ
number_of_segments segments = number_from_digits (2 ^ 16) segments

-- the list has eight segments of 16 bits
pub record AreSegments (segments : List ℕ) : Type 0 where
  pub eight : length segments ≡ 8
  pub each : (i : ℕ) → slice_index segments i < 2 ^ 16
