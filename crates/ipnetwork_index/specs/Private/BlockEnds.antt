-- Words that give the places of ranges which end where blocks of 256 numbers do, for parts of 32 blocks each.
use Rattle.std.specs.Prelude.{◌≡◌, ◌≢◌, ℕ, ◌+◌, ◌*◌, ◌/◌, ◌%◌, ◌^◌, ◌<◌, ◌≤◌, List, length, count_ones}
use Rattle.std.proofs.Common.{get_or}
use Rattle.ipnetwork_index.specs.Private.Partitions.{LiesAt}

-- the place that the word gives for the numbers of this block of the part: that in its high half, and one more for each
-- of its bits before that of the block
abbrev pub place_told : ℕ → ℕ → ℕ
place_told word block = word / 2 ^ 32 + count_ones (word % 2 ^ block)

-- each of the 256 numbers of the block lies in the range at this place
abbrev pub AllLieAt : List ℕ → ℕ → ℕ → Type 0
AllLieAt lasts block place = (x : ℕ) → x / 256 ≡ block → LiesAt lasts x place

-- the word gives the places of the numbers of all blocks of the part
abbrev pub IsTold : List ℕ → ℕ → ℕ → Type 0
IsTold lasts part word =
    (block : ℕ) → block < 32 → AllLieAt lasts (part * 32 + block) (place_told word block)

-- each of the first `count` words is 0, or gives the places of the numbers of its part
pub record AreTellingUpTo (lasts words : List ℕ) (count : ℕ) : Type 0 where
  pub all : (part : ℕ) → part < count → get_or words part 0 ≢ 0 → IsTold lasts part (get_or words part 0)

-- each word is 0, or gives the places of the numbers of its part
abbrev pub AreTelling : List ℕ → List ℕ → Type 0
AreTelling lasts words = AreTellingUpTo lasts words (length words)

-- while the part is scanned: `ends` has the bits of the ranges from `start` up to but excluding `at`, which end before
-- the block `next` of the part, and gives the places of the numbers of the blocks before it
pub record IsScanned (lasts : List ℕ) (part start ends next at : ℕ) : Type 0 where
  pub few : next ≤ 32
  pub within : at ≤ length lasts
  pub small : ends < 2 ^ next
  pub count : start + count_ones ends ≡ at
  pub told : (block : ℕ) → block < next
      → AllLieAt lasts (part * 32 + block) (start + count_ones (ends % 2 ^ block))
  pub before : (k : ℕ) → k < at → get_or lasts k 0 < (part * 32 + next) * 256
