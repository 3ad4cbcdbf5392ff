-- The search for a number among ascending numbers, the keys. No number that is searched for is greater than the last
-- four keys.
use Rattle.std.specs.Prelude.{ℕ, ◌+◌, ◌-◌, ◌*◌, ◌^◌, ◌<◌, ◌≤◌, List, length}
use Rattle.std.proofs.Common.{get_or}

-- no key is less than one before it
pub record Ascends (keys : List ℕ) : Type 0 where
  pub order : (i j : ℕ) → i ≤ j → j < length keys → get_or keys i 0 ≤ get_or keys j 0

-- the search for the numbers of this part may begin at `at`: the keys before `at` are less than each number of the
-- part. For the first part, `at` is 0
pub record IsStart (keys : List ℕ) (base shift part at : ℕ) : Type 0 where
  pub within : at ≤ length keys
  pub less : (k : ℕ) → k < at → (1 ≤ part) × (get_or keys k 0 < base + part * 2 ^ shift)

-- `starts` has a place for each part where the search for its numbers may begin
pub record AreStarts (keys starts : List ℕ) (base shift : ℕ) : Type 0 where
  pub some : 1 ≤ length starts
  pub all : (part : ℕ) → part < length starts → IsStart keys base shift part (get_or starts part 0)

-- the keys can be searched from these starts
pub record IsSearchable (keys starts : List ℕ) (base shift : ℕ) : Type 0 where
  pub some : 4 ≤ length keys
  pub ascending : Ascends keys
  pub starts_are : AreStarts keys starts base shift

-- x is not greater than the last four keys
pub record IsWithin (keys : List ℕ) (x : ℕ) : Type 0 where
  pub some : 4 ≤ length keys
  pub most : x ≤ get_or keys (length keys - 4) 0

-- the key at this place is the first that is not less than x, and not one of the last three
pub record IsPlaceOf (keys : List ℕ) (x at : ℕ) : Type 0 where
  pub after : (k : ℕ) → k < at → get_or keys k 0 < x
  pub within : x ≤ get_or keys at 0
  pub room : at + 4 ≤ length keys
