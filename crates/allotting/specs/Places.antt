-- Places for blocks of several lengths among the addresses of w bits that are free, one for each length of a list.
use Rattle.std.specs.Prelude.{◌≡◌, ℕ, ◌<◌, ◌≤◌, ◌⊎◌, List, Option, None, Some, MatchOption, length, get_or}
use Rattle.ipnetwork_family.specs.Network.{Network, Member}
use Rattle.allotting.specs.FreeBlocks.{IsFreeBlock}

-- b is the first free block of prefix length p: no other begins before it
pub record IsFirstFree (w : ℕ) (free : ℕ → Type 0) (p : ℕ) (b : Network) : Type 0 where
  pub one : IsFreeBlock w free p b
  pub first : (other : Network) → IsFreeBlock w free p other → b.address ≤ other.address

-- no block of prefix length p is free
abbrev pub NoneIsFree : ℕ → (ℕ → Type 0) → ℕ → Type 0
NoneIsFree w free p = (b : Network) → ¬ (IsFreeBlock w free p b)

-- the length at index j is less than p, or it is p and j is less than i
abbrev pub IsBefore : List ℕ → ℕ → ℕ → ℕ → Type 0
IsBefore lengths p i j =
    (j < length lengths) × ((get_or lengths j 0 < p) ⊎ ((get_or lengths j 0 ≡ p) × (j < i)))

-- the block in a place, which is a value that `pair` gives, has the address x
abbrev pub Covers : {X : Type 0} → (X → Network) → ℕ → Option X → ℕ → Type 0
Covers pair w None x = ⊥
Covers pair w (Some block) x = Member w (pair block) x

-- x is free, and in no place of an index before i, if the length at i is p: blocks of shorter prefixes have their places
-- first, and of one length those that come earlier in the list
abbrev pub IsLeft : {X : Type 0} → (X → Network) → ℕ → (ℕ → Type 0) → List ℕ → List (Option X) → ℕ → ℕ → ℕ → Type 0
IsLeft pair w free lengths places p i x =
    free x × ((j : ℕ) → IsBefore lengths p i j → ¬ (Covers pair w (get_or places j None) x))

-- the place at index i has the first block of this length that is left for it, or nothing if none is left
abbrev pub IsPlaced : {X : Type 0} → (X → Network) → ℕ → (ℕ → Type 0) → List ℕ → List (Option X) → ℕ → Type 0
IsPlaced pair w free lengths places i =
    MatchOption (get_or places i None)
    (NoneIsFree w (IsLeft pair w free lengths places (get_or lengths i 0) i) (get_or lengths i 0))
    (λ block. IsFirstFree w (IsLeft pair w free lengths places (get_or lengths i 0) i) (get_or lengths i 0) (pair block))

-- each length has its place
pub record ArePlaces {X : Type 0} (pair : X → Network) (w : ℕ) (free : ℕ → Type 0) (lengths : List ℕ)
    (places : List (Option X)) : Type 0 where
  pub one_each : length places ≡ length lengths
  pub placed : (i : ℕ) → i < length lengths → IsPlaced pair w free lengths places i
