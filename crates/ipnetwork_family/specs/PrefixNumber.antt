-- Which texts are numbers as prefix lengths are written.
use Rattle.std.specs.Prelude.{◌≡◌, ℕ, ◌≤◌, ◌⊎◌, List, ◌∷◌}
use Rattle.std.specs.Str.Parse.{IsNumeral, digits_value}

-- `b'+'`
abbrev pub plus : ℕ
plus = 43

-- one or more decimal digits with this value
pub record IsNumeralOf (text : List ℕ) (value : ℕ) : Type 0 where
  pub digits : IsNumeral 10 text
  pub is_value : digits_value 10 text ≡ value

-- an optional `+`, and one or more decimal digits with this value
pub record IsPrefixNumber (text : List ℕ) (value : ℕ) : Type 0 where
  pub digits : List ℕ
  pub spelled : (text ≡ digits) ⊎ (text ≡ plus ∷ digits)
  pub numeral : IsNumeralOf digits value

-- the text names no number of at most max
abbrev pub IsNoPrefixNumber : List ℕ → ℕ → Type 0
IsNoPrefixNumber text max = (value : ℕ) → IsPrefixNumber text value → ¬ (value ≤ max)
