-- The numbers of w bits cut into ranges, each represented by its last number.
use Rattle.std.specs.Prelude.{◌≡◌, ℕ, ◌+◌, ◌^◌, ◌<◌, ◌≤◌, Bool, not, nat_le, cond, List, [], ◌∷◌, length}
use Rattle.std.proofs.Common.{get_or}

-- the ranges ascend and none is empty, and the last one ends with the greatest number of w bits
pub record IsPartition (w : ℕ) (lasts : List ℕ) : Type 0 where
  pub ascending : (i j : ℕ) → i < j → j < length lasts → get_or lasts i 0 < get_or lasts j 0
  pub some : 1 ≤ length lasts
  pub last : (k : ℕ) → k + 1 ≡ length lasts → get_or lasts k 0 + 1 ≡ 2 ^ w

-- x lies in the range at this place: it is greater than the last number of each range before, and at most this one's
pub record LiesAt (lasts : List ℕ) (x at : ℕ) : Type 0 where
  pub one : at < length lasts
  pub after : (k : ℕ) → k < at → get_or lasts k 0 < x
  pub within : x ≤ get_or lasts at 0

-- whether x is in the set of every other range: if `first` is true, the set begins with the first range, and otherwise
-- with the second
abbrev pub is_inside : Bool → List ℕ → ℕ → Bool
is_inside first [] x = first
is_inside first (last ∷ lasts) x = cond (nat_le x last) first (is_inside (not first) lasts x)
