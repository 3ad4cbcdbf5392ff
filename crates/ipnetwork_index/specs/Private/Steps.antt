-- The steps of a search.
use Rattle.std.specs.Prelude.{◌≡◌, ℕ, ◌+◌, ◌-◌, ◌*◌, ◌<◌, ◌≤◌, List, length}
use Rattle.std.proofs.Common.{get_or}
use Rattle.ipnetwork_index.specs.Searches.{Ascends, IsStart}

-- `one` is 1 if a is less than b, and 0 otherwise
pub record IsOneIfLess (a b one : ℕ) : Type 0 where
  pub less : a < b → one ≡ 1
  pub not : b ≤ a → one ≡ 0

-- of four steps from `at` on, each over `step` + 1 keys, the first `below` pass only keys that are less than x, and the
-- last key of the next step is not less than x
pub record IsStep (keys : List ℕ) (x at step below : ℕ) : Type 0 where
  pub few : below ≤ 4
  pub most : below * (step + 1) ≤ 4 * step + 4
  pub less : (k : ℕ) → at ≤ k → k < at + below * (step + 1) → get_or keys k 0 < x
  pub not : below < 4 → x ≤ get_or keys (at + below * (step + 1) + step) 0

-- the search for x has reached `at`: the keys ascend, those before `at` are less than x, at least three follow the one
-- at `at`, and x is not greater than the last four keys
pub record HasComeTo (keys : List ℕ) (x at : ℕ) : Type 0 where
  pub ascending : Ascends keys
  pub after : (k : ℕ) → k < at → get_or keys k 0 < x
  pub room : at + 4 ≤ length keys
  pub most : x ≤ get_or keys (length keys - 4) 0

-- the place of x is one of those from `at` to `end`
pub record IsBetween (keys : List ℕ) (x at end : ℕ) : Type 0 where
  pub after : (k : ℕ) → k < at → get_or keys k 0 < x
  pub ordered : at ≤ end
  pub within : x ≤ get_or keys end 0
  pub room : end + 4 ≤ length keys

-- while the starts of the parts are written: each part before `part` has its start, and `at` may be the start of `part`
pub record AreStartsSoFar (keys starts : List ℕ) (base shift part at : ℕ) : Type 0 where
  pub all : (h : ℕ) → h < part → IsStart keys base shift h (get_or starts h 0)
  pub next : IsStart keys base shift part at
