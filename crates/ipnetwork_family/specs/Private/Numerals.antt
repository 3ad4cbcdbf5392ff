-- The texts that are not numerals.
use Rattle.std.specs.Prelude.{ℕ, ◌≤◌, List}
use Rattle.ipnetwork_family.specs.PrefixNumber.{IsNumeralOf}

-- the text is not a numeral, or its value is greater than max
abbrev pub IsNoNumeral : List ℕ → ℕ → Type 0
IsNoNumeral text max = (value : ℕ) → IsNumeralOf text value → ¬ (value ≤ max)
