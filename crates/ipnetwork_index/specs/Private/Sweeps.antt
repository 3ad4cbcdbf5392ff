-- The blocks of a table that are open while the numbers are swept.
use Rattle.std.specs.Prelude.{◌≡◌, ℕ, ◌+◌, ◌<◌, ◌≤◌, List, length, Some, slice_get}
use Rattle.std.proofs.Common.{get_or}
use Rattle.std.specs.List.{Contains}
use Rattle.std.specs.FinMap.{FinMap, entries}
use Rattle.ipnetwork_family.specs.Network.{Network, IsCidrBlock, IsNetworkBefore, Subnet, low, high, network_cmp}
use Rattle.ipnetwork_table.specs.Table.{HasOnlyBlocks}
use Rattle.ipnetwork_index.specs.Private.Answers.{AreAnswers, AreAnswersUpTo}

-- the table has these entries, and each of its keys is a block
pub record HasEntries {V : Type 0} (w : ℕ) (t : FinMap network_cmp V) (es : List (Network × V)) : Type 0
  where
    pub blocks : HasOnlyBlocks w t
    pub own : es ≡ entries t

-- each entry has a block, and the entries are in the order of networks
pub record AreListed {V : Type 0} (w : ℕ) (es : List (Network × V)) : Type 0 where
  pub blocks : (i : ℕ) (e : Network × V) → slice_get es i ≡ Some e → IsCidrBlock w e.0
  pub ascending : (i j : ℕ) (d e : Network × V) → slice_get es i ≡ Some d
      → slice_get es j ≡ Some e → i < j → IsNetworkBefore d.0 e.0

-- the inner network lies in the outer one and has a longer prefix
pub record IsLongerWithin (w : ℕ) (outer inner : Network) : Type 0 where
  pub longer : outer.prefix < inner.prefix
  pub within : Subnet w inner outer

-- each of the blocks at these places lies in all those before it and has a longer prefix
abbrev pub AreNested : {V : Type 0} → ℕ → List (Network × V) → List ℕ → Type 0
AreNested {V} w es opened = (k m : ℕ) (d e : Network × V) → k < m → m < length opened
    → slice_get es (get_or opened k 0) ≡ Some d → slice_get es (get_or opened m 0) ≡ Some e
    → IsLongerWithin w d.0 e.0

-- the sweep has reached x, and the first `count` blocks begin at x or before. Those of them that end at x or later are
-- at the places in `opened`, which ascend, and the blocks at these places are nested
pub record AreOpen {V : Type 0} (w : ℕ) (es : List (Network × V)) (count x : ℕ) (opened : List ℕ)
    : Type 0 where
  pub within : count ≤ length es
  pub begun : (j : ℕ) (e : Network × V) → j < count → slice_get es j ≡ Some e → low w e.0 ≤ x
  pub each : (k : ℕ) → k < length opened → get_or opened k 0 < count
  pub ascending : (k m : ℕ) → k < m → m < length opened
      → get_or opened k 0 < get_or opened m 0
  pub kept : (j : ℕ) (e : Network × V) → j < count → slice_get es j ≡ Some e → x ≤ high w e.0
      → Contains opened j
  pub nested : AreNested w es opened

-- the block after the first `count`, if any, begins after x
abbrev pub NextIsAfter : {V : Type 0} → ℕ → List (Network × V) → ℕ → ℕ → Type 0
NextIsAfter {V} w es count x = (e : Network × V) → slice_get es count ≡ Some e → x < low w e.0

-- the block at the last of these places, if any, ends at x or later
abbrev pub LastEndsFrom : {V : Type 0} → ℕ → List (Network × V) → ℕ → List ℕ → Type 0
LastEndsFrom {V} w es x opened = (k : ℕ) (e : Network × V) → k + 1 ≡ length opened
    → slice_get es (get_or opened k 0) ≡ Some e → x ≤ high w e.0

-- each of these is the place of a block
abbrev pub ArePlaces : {V : Type 0} → List (Network × V) → List ℕ → Type 0
ArePlaces es opened = (k : ℕ) → k < length opened → get_or opened k 0 < length es

-- if `old` has the open blocks at some number from x on, then so has `new`
abbrev pub KeepsOpen : {V : Type 0} → ℕ → List (Network × V) → ℕ → List ℕ → List ℕ → Type 0
KeepsOpen w es x old new = (count y : ℕ) → x ≤ y → AreOpen w es count y old
    → AreOpen w es count y new

-- the prefix length and the value of the block at the last place; the prefix length is 255 if there are no places
pub record IsInnermost {V : Type 0} (es : List (Network × V)) (opened : List ℕ) (prefix : ℕ)
    (value : V) : Type 0 where
  pub none : length opened ≡ 0 → prefix ≡ 255
  pub some : (k : ℕ) → k + 1 ≡ length opened → (n : Network)
      × (slice_get es (get_or opened k 0) ≡ Some (n, value)) × (n.prefix ≡ prefix)

-- these are the first `count` answers for each table with these entries
abbrev pub AreSwept : {V : Type 0} → ℕ → List (Network × V) → List ℕ → List ℕ → List V → ℕ → Type 0
AreSwept {V} w es lasts prefixes values count = (t : FinMap network_cmp V) → HasOnlyBlocks w t
    → es ≡ entries t → AreAnswersUpTo w t lasts prefixes values count

-- these are all answers for each table with these entries, or there are none because the table has no blocks
abbrev pub AreAnswersOf : {V : Type 0} → ℕ → List (Network × V) → List ℕ → List ℕ → List V → Type 0
AreAnswersOf {V} w es lasts prefixes values = (t : FinMap network_cmp V) → HasOnlyBlocks w t
    → es ≡ entries t → AreAnswers w t lasts prefixes values

-- at each number that is not less than the last numbers of the first `come` ranges, the first `count` blocks have
-- begun, and `opened` has those that are open
abbrev pub OpenFrom : {V : Type 0} → ℕ → List (Network × V) → List ℕ → ℕ → ℕ → List ℕ → Type 0
OpenFrom w es lasts come count opened = (x : ℕ) → ((k : ℕ) → k < come → get_or lasts k 0 ≤ x)
    → AreOpen w es count x opened
