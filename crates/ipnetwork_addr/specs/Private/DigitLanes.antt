-- The values of the hex digits of a text, each at the position of its byte.
use Rattle.std.specs.Prelude.{◌≡◌, ℕ, ◌+◌, ◌*◌, ◌/◌, ◌%◌, ◌^◌, ◌<◌, List, length, slice_index}
use Rattle.std.specs.Char.{digit_value}

-- a value, if it is below sixteen, is the value of the byte as a hex digit
abbrev pub IsValueOf : ℕ → ℕ → Type 0
IsValueOf byte value = value < 16 → digit_value byte ≡ value

-- the values of sixteen bytes as hex digits
abbrev pub AreValuesOf : List ℕ → List ℕ → Type 0
AreValuesOf bytes values = (k : ℕ) → k < 16 → IsValueOf (slice_index bytes k) (slice_index values k)

-- the values of the first `count` bytes of a text, after four other values
abbrev pub ShowsValuesUpTo : ℕ → List ℕ → List ℕ → Type 0
ShowsValuesUpTo count text values = (k : ℕ) → k < count → IsValueOf (slice_index text k) (slice_index values (k + 4))

-- the values of all bytes of a text, after four other values
abbrev pub ShowsValues : List ℕ → List ℕ → Type 0
ShowsValues text values = ShowsValuesUpTo (length text) text values

-- each of the four bytes of a number is below sixteen
abbrev pub AreDigitsIn : ℕ → Type 0
AreDigitsIn word = (word / 2 ^ 24 < 16) × (word / 2 ^ 16 % 256 < 16) × (word / 2 ^ 8 % 256 < 16) × (word % 256 < 16)

-- the number whose four hex digits are the four bytes of this one
abbrev pub group_in : ℕ → ℕ
group_in word = ((word / 2 ^ 24 * 16 + word / 2 ^ 16 % 256) * 16 + word / 2 ^ 8 % 256) * 16 + word % 256
