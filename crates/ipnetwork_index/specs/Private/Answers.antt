-- One answer for all numbers of a range.
use Rattle.std.specs.Prelude.{◌≡◌, ◌≢◌, ℕ, ◌<◌, ◌≤◌, ◌⊎◌, min, List, length, Option, MatchOption}
use Rattle.std.proofs.Common.{get_or}
use Rattle.std.specs.FinMap.{FinMap}
use Rattle.ipnetwork_family.specs.Network.{Network, block_at, network_cmp}
use Rattle.ipnetwork_table.specs.Table.{HasOnlyBlocks, IsLongest, NoneHolds}
use Rattle.ipnetwork_index.specs.Turns.{CutByBlocks}
use Rattle.ipnetwork_index.specs.Private.Partitions.{LiesAt}

-- a look-up of x finds the block of this prefix length that contains x, with this value
pub record IsFound {V : Type 0} (w : ℕ) (t : FinMap network_cmp V) (x prefix : ℕ) (value : V)
    : Type 0 where
  pub within : prefix ≤ w
  pub longest : IsLongest w t x (block_at w x prefix) value

-- if the prefix length is 255, a look-up of x finds nothing; otherwise it finds what `IsFound` says
pub record Tells {V : Type 0} (w : ℕ) (t : FinMap network_cmp V) (x prefix : ℕ) (value : V) : Type 0
  where
    pub none : prefix ≡ 255 → NoneHolds w t x
    pub found : prefix ≢ 255 → IsFound w t x prefix value

-- `Tells` for the prefix length and the value at this place
pub record TellsAt {V : Type 0} (w : ℕ) (t : FinMap network_cmp V) (prefixes : List ℕ)
    (values : List V) (at x : ℕ) : Type 0 where
  pub none : get_or prefixes at 255 ≡ 255 → NoneHolds w t x
  pub found : (other : V) → get_or prefixes at 255 ≢ 255
      → IsFound w t x (get_or prefixes at 255) (get_or values at other)

-- the answer to a look-up of x that the prefix length and the value at this place give. The prefix length 255 means
-- that there is none; any other that is greater than w counts as w
abbrev pub IsMadeOf : {N V : Type 0} → (N → Network) → ℕ → List ℕ → List V → ℕ → ℕ
    → Option (N × V) → Type 0
IsMadeOf pair w prefixes values at x answer =
    MatchOption answer (get_or prefixes at 255 ≡ 255)
    (λ found. (get_or prefixes at 255 ≢ 255)
    × (pair found.0 ≡ block_at w x (min (get_or prefixes at 255) w))
    × (get_or values at found.1 ≡ found.1))

-- there are `count` answers, and they say what look-ups of the last numbers of the first `count` ranges find
pub record AreAnswersUpTo {V : Type 0} (w : ℕ) (t : FinMap network_cmp V) (lasts prefixes : List ℕ)
    (values : List V) (count : ℕ) : Type 0 where
  pub prefix_count : length prefixes ≡ count
  pub value_count : length values ≡ count
  pub all : (k : ℕ) → k < count → TellsAt w t prefixes values k (get_or lasts k 0)

-- there are no answers, and no block of the table contains any number
pub record AreNone {V : Type 0} (w : ℕ) (t : FinMap network_cmp V) (prefixes : List ℕ)
    (values : List V) : Type 0 where
  pub prefix_count : length prefixes ≡ 0
  pub value_count : length values ≡ 0
  pub all : (x : ℕ) → NoneHolds w t x

-- there are no answers and no blocks, or there is one answer for each range
abbrev pub AreAnswers : {V : Type 0} → ℕ → FinMap network_cmp V → List ℕ → List ℕ → List V → Type 0
AreAnswers w t lasts prefixes values = AreNone w t prefixes values
    ⊎ AreAnswersUpTo w t lasts prefixes values (length lasts)

-- the answer for each range says what a look-up of any number in that range finds
pub record IsAnswered {V : Type 0} (w : ℕ) (t : FinMap network_cmp V) (lasts prefixes : List ℕ)
    (values : List V) : Type 0 where
  pub blocks : HasOnlyBlocks w t
  pub size : length prefixes ≡ length values
  pub all : (x at : ℕ) → LiesAt lasts x at → TellsAt w t prefixes values at x
  pub cut : CutByBlocks w t (length lasts)
