-- Numbers represented by the part that they lie in and by their last 16 bits.
use Rattle.std.specs.Prelude.{◌≡◌, ℕ, ◌+◌, ◌/◌, ◌%◌, ◌^◌, ◌<◌, ◌≤◌, List, length, Option, MatchOption}
use Rattle.std.proofs.Common.{get_or}
use Rattle.ipnetwork_index.specs.Private.BlockEnds.{AreTelling}
use Rattle.ipnetwork_index.specs.Private.Partitions.{IsPartition}

-- each number is greater than those before it
abbrev pub AreAscending : List ℕ → Type 0
AreAscending numbers =
    (i j : ℕ) → i < j → j < length numbers → get_or numbers i 0 < get_or numbers j 0

-- the first `count` numbers lie before the part
abbrev pub AreBefore : List ℕ → ℕ → ℕ → ℕ → Type 0
AreBefore numbers shift part count =
    (k : ℕ) → k < count → get_or numbers k 0 / 2 ^ shift < part

-- the first `at` numbers lie before the part, and the others lie in it or after it
pub record IsFirstOf (numbers : List ℕ) (shift part at : ℕ) : Type 0 where
  pub within : at ≤ length numbers
  pub before : AreBefore numbers shift part at
  pub from : (k : ℕ) → at ≤ k → k < length numbers → part ≤ get_or numbers k 0 / 2 ^ shift

-- `starts` has, for each part, how many numbers lie before it
abbrev pub AreFirsts : List ℕ → List ℕ → ℕ → Type 0
AreFirsts numbers starts shift = (part : ℕ) → part < length starts
    → IsFirstOf numbers shift part (get_or starts part 0)

-- `starts` has, for each part before `part`, how many numbers lie before it; at least `at` numbers lie before `part`
pub record AreFirstsSoFar (numbers starts : List ℕ) (shift part at : ℕ) : Type 0 where
  pub all : (h : ℕ) → h < part → IsFirstOf numbers shift h (get_or starts h 0)
  pub within : at ≤ length numbers
  pub before : AreBefore numbers shift part at

-- there is a start for the part of each number of 32 bits, and for the part after it
abbrev pub ReachAll : List ℕ → ℕ → Type 0
ReachAll starts shift = (x : ℕ) → x < 2 ^ 32 → x / 2 ^ shift + 1 < length starts

-- `lows` has the last 16 bits of each number, and eight more elements
pub record AreLows (numbers lows : List ℕ) : Type 0 where
  pub room : length lows ≡ length numbers + 8
  pub all : (k : ℕ) → k < length numbers → get_or lows k 0 ≡ get_or numbers k 0 % 65536

-- `lows` and `starts` represent the numbers, and `words` give the places of those that lie in their parts
pub record AreKnownBy (numbers lows starts : List ℕ) (shift : ℕ) (words : List ℕ) : Type 0 where
  pub narrow : shift ≤ 16
  pub lows_are : AreLows numbers lows
  pub reach : ReachAll starts shift
  pub firsts : AreFirsts numbers starts shift
  pub telling : AreTelling numbers words

-- the numbers are the last numbers of ranges that make up the numbers of w bits, w is at most 32, and `lows`, `starts`
-- and `words` represent them
pub record AreLowHalvesOf (w : ℕ) (lows starts : List ℕ) (shift : ℕ) (words numbers : List ℕ)
    : Type 0 where
  pub short : w ≤ 32
  pub partition : IsPartition w numbers
  pub known : AreKnownBy numbers lows starts shift words

-- `lows`, `starts` and `words` represent the last numbers of some ranges
pub record AreLowHalves (lows starts : List ℕ) (shift : ℕ) (words : List ℕ) : Type 0 where
  pub w : ℕ
  pub numbers : List ℕ
  pub of : AreLowHalvesOf w lows starts shift words numbers

-- of the eight from this place on, the first `less` are less than `low`, and the next one is not
pub record IsRunOfLess (lows : List ℕ) (at low less : ℕ) : Type 0 where
  pub few : less ≤ 8
  pub before : (k : ℕ) → at ≤ k → k < at + less → get_or lows k 0 < low
  pub next : less < 8 → low ≤ get_or lows (at + less) 0

-- from `from` up to but excluding `end`, no number is less than one before it
abbrev pub AreRising : List ℕ → ℕ → ℕ → Type 0
AreRising lows from end =
    (i j : ℕ) → from ≤ i → i ≤ j → j < end → get_or lows i 0 ≤ get_or lows j 0

-- from `from` up to but excluding `end`, the first number that is not less than `low` is at this place; it is `end` if
-- there is none
pub record IsFirstFrom (lows : List ℕ) (from end low at : ℕ) : Type 0 where
  pub after : from ≤ at
  pub within : at ≤ end
  pub before : (k : ℕ) → from ≤ k → k < at → get_or lows k 0 < low
  pub next : at < end → low ≤ get_or lows at 0

-- during the search for the place that `IsFirstFrom` describes: it is one of those from `at` to `to`
pub record IsNarrowedTo (lows : List ℕ) (from end low at to : ℕ) : Type 0 where
  pub after : from ≤ at
  pub ordered : at ≤ to
  pub within : to ≤ end
  pub before : (k : ℕ) → from ≤ k → k < at → get_or lows k 0 < low
  pub next : to < end → low ≤ get_or lows to 0

-- the ranges with these last numbers are looked up in the partition, or, if there is none, in the low halves
abbrev pub ArePlacesOf : ℕ → Option (List ℕ) → List ℕ → List ℕ → ℕ → List ℕ → List ℕ → Type 0
ArePlacesOf w partition lows starts shift words lasts =
    MatchOption partition (AreLowHalvesOf w lows starts shift words lasts) (λ own. own ≡ lasts)

-- some ranges are looked up in the partition, or, if there is none, in the low halves
pub record HavePlaces (w : ℕ) (partition : Option (List ℕ)) (lows starts : List ℕ) (shift : ℕ)
    (words : List ℕ) : Type 0 where
  pub lasts : List ℕ
  pub of : ArePlacesOf w partition lows starts shift words lasts
