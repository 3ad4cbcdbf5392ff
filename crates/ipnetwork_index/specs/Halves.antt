-- The high halves of numbers.
use Rattle.std.specs.Prelude.{ℕ, ◌/◌, ◌^◌, ◌≤◌}
use Rattle.std.proofs.Common.{lit<}
use Rattle.std.proofs.Math.Nat.{div-mul-le_self, le_trans}
use Rattle.std.proofs.lemmas.Nat.{le-div}

-- each number greater than x has a greater high half than x
abbrev pub IsLastOf : (ℕ → ℕ) → ℕ → Type 0
IsLastOf high x = (y : ℕ) → high y ≤ high x → y ≤ x

-- a greater number of 128 bits does not have a smaller high half
pub halves_ascend : (x y : ℕ) → x ≤ y → x / 2 ^ 64 ≤ y / 2 ^ 64
halves_ascend x y l =
    le-div (x / 2 ^ 64) y (2 ^ 64) (lit< tt) (le_trans (div-mul-le_self x (2 ^ 64)) l)
