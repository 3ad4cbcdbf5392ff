-- Numbers that are searched first by their high halves.
use Rattle.std.specs.Prelude.{◌≡◌, ℕ, ◌<◌, Bool, true, List, length, map}
use Rattle.std.proofs.Common.{get_or}
use Rattle.ipnetwork_index.specs.Halves.{IsLastOf}
use Rattle.ipnetwork_index.specs.Searches.{IsSearchable}

-- each number is the greatest with its high half
abbrev pub AllAreLast : (ℕ → ℕ) → List ℕ → Type 0
AllAreLast high xs = (k : ℕ) → k < length xs → IsLastOf high (get_or xs k 0)

-- `highs` are the high halves of the numbers and can be searched, and the shift is less than `bits`; if `tells` is
-- true, each number is the greatest with its high half
pub record IsHalved (high : ℕ → ℕ) (bits : ℕ) (padded highs starts : List ℕ) (base shift : ℕ)
    (tells : Bool) : Type 0 where
  pub highs_are : highs ≡ map high padded
  pub searchable : IsSearchable highs starts base shift
  pub narrow : shift < bits
  pub all_last : tells ≡ true → AllAreLast high padded
