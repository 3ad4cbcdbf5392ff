-- The positions of a byte in a text.
use Rattle.std.specs.Prelude.{◌≡◌, ◌≢◌, ℕ, ◌<◌, ◌≤◌, List, length, slice_index}

-- no byte with an index of at least `from` and below `end` has this value
abbrev pub IsAbsent : ℕ → List ℕ → ℕ → ℕ → Type 0
IsAbsent byte text from end = (position : ℕ) → from ≤ position → position < end → slice_index text position ≢ byte

-- `at` is the index of the first byte of this value at or after `from`
pub record IsNext (byte : ℕ) (text : List ℕ) (from at : ℕ) : Type 0 where
  -- the index is at least `from`
  pub behind : from ≤ at
  -- the index is within the text
  pub within : at < length text
  -- no byte between the two has the value
  pub between : IsAbsent byte text from at
  -- the byte at the index has this value
  pub there : slice_index text at ≡ byte
