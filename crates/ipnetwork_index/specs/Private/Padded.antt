-- The fields of a partition.
use Rattle.std.specs.Prelude.{◌≡◌, ℕ, ◌+◌, ◌-◌, ◌^◌, ◌<◌, ◌≤◌, Bool, false, true, List, length, take}
use Rattle.std.proofs.Common.{get_or}
use Rattle.ipnetwork_index.specs.Searches.{Ascends, IsSearchable}
use Rattle.ipnetwork_index.specs.Private.Halved.{IsHalved}

-- all numbers but the last three
abbrev pub unpadded : List ℕ → List ℕ
unpadded padded = take (length padded - 3) padded

-- the numbers ascend, and the fourth from the end is the greatest of w bits
pub record IsPadded (w : ℕ) (padded : List ℕ) : Type 0 where
  pub some : 4 ≤ length padded
  pub ascending : Ascends padded
  pub top : get_or padded (length padded - 4) 0 + 1 ≡ 2 ^ w

-- the numbers are padded, and without the last three they are `lasts`
pub record Pads (w : ℕ) (lasts padded : List ℕ) : Type 0 where
  pub is_padded : IsPadded w padded
  pub own : unpadded padded ≡ lasts

-- the numbers are padded and can be searched, by their high halves first if `by_halves` is true; the shift is less than
-- `bits`, or than `high_bits` for high halves
pub record IsSearched (w : ℕ) (high : ℕ → ℕ) (bits high_bits : ℕ) (padded starts : List ℕ)
    (base shift : ℕ) (by_halves : Bool) (highs : List ℕ) (high_base : ℕ) (tells : Bool) : Type 0
  where
    pub is_padded : IsPadded w padded
    pub searchable : by_halves ≡ false → IsSearchable padded starts base shift
    pub narrow : by_halves ≡ false → shift < bits
    pub is_halved : by_halves ≡ true
        → IsHalved high high_bits padded highs starts high_base shift tells
