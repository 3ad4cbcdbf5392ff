-- Hexadecimal numbers.
use Rattle.std.specs.Prelude.{ℕ, ◌+◌, List, ◌++◌, map, nat_lt, if◌then◌else◌, codes}
use Rattle.ipnetwork_addr.specs.Digits.{digits_in}

-- the character of a hexadecimal digit: `0` to `9`, then `a` to `f`
abbrev pub hex_digit : ℕ → ℕ
hex_digit digit = if nat_lt digit 10 then 48 + digit else 87 + digit

-- the last hexadecimal digits of a number, as many as `count`, the most significant first
abbrev pub hex_digits : ℕ → ℕ → List ℕ
hex_digits count number = map hex_digit (digits_in 16 count number)

-- `0x`, followed by the last `count` hexadecimal digits of a number
abbrev pub hex_text : ℕ → ℕ → List ℕ
hex_text count number = codes "0x" ++ hex_digits count number
