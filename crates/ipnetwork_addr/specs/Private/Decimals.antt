-- The decimal digits that the printer of numbers writes.
use Rattle.std.specs.Prelude.{ℕ, zero, suc, ◌+◌, ◌/◌, ◌%◌, List, [], ◌∷◌, ◌++◌}

-- the last `count` decimal digits of a number, as bytes
unfoldable pub padded_decimal : ℕ → ℕ → List ℕ
padded_decimal zero n = []
padded_decimal (suc count) n = padded_decimal count (n / 10) ++ (48 + n % 10) ∷ []
