-- Where ranges cut the numbers of w bits.
use Rattle.std.specs.Prelude.{◌≡◌, ℕ, zero, suc, ◌+◌, ◌^◌, ◌<◌, ◌≤◌, ◌⊎◌, List, [], ◌∷◌, ◌++◌, length}
use Rattle.std.proofs.Common.{get_or}
use Rattle.std.specs.List.{flat_map}
use Rattle.ipnetwork_sets.specs.RangeLists.{IsRangeList}
use Rattle.ipnetwork_index.specs.Private.Partitions.{IsPartition}

-- the number before this one, if there is one
abbrev pub before : ℕ → List ℕ
before zero = []
before (suc n) = n ∷ []

-- the last number before a range, if any, and the last number of the range
abbrev pub cuts_of : ℕ × ℕ → List ℕ
cuts_of range = before range.0 ++ range.1 ∷ []

-- these are the cuts of all ranges of the set
pub record AreCutsOf (set : ℕ → Type 0) (cuts : List ℕ) : Type 0 where
  pub ranges : List (ℕ × ℕ)
  pub all : IsRangeList set ranges
  pub cuts_are : cuts ≡ flat_map cuts_of ranges

-- each number is greater than the one before it, and the first is at least `least`
abbrev pub Rises : ℕ → List ℕ → Type 0
Rises least [] = Unit {0}
Rises least (x ∷ xs) = (least ≤ x) × Rises (x + 1) xs

-- the last of the numbers is the greatest of w bits
pub record EndsWhole (w : ℕ) (cuts : List ℕ) : Type 0 where
  pub some : 1 ≤ length cuts
  pub last : (k : ℕ) → k + 1 ≡ length cuts → get_or cuts k 0 + 1 ≡ 2 ^ w

-- the last of the numbers, if any, is less than the greatest of w bits
pub record EndsBefore (w : ℕ) (cuts : List ℕ) : Type 0 where
  pub last : (k : ℕ) → k + 1 ≡ length cuts → get_or cuts k 0 + 1 < 2 ^ w

-- the last numbers of ranges: the cuts and, unless the cuts end with it, the greatest number of w bits
pub record Closes (w : ℕ) (cuts lasts : List ℕ) : Type 0 where
  pub partition : IsPartition w lasts
  pub either : (lasts ≡ cuts) ⊎ ((top : ℕ) × (top + 1 ≡ 2 ^ w) × (lasts ≡ cuts ++ top ∷ []))
