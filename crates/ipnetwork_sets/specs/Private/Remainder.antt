-- The part of a block that is not in a set, from an address on.
use Rattle.std.specs.Prelude.{◌≡◌, ℕ, ◌+◌, ◌<◌, ◌≤◌, ◌⊎◌, ◌↔◌, List, [], ◌∷◌, Option, None, Some}
use Rattle.ipnetwork_family.specs.Network.{Network, Member, high}
use Rattle.ipnetwork_blocks.specs.Aggregate.{InUnion}
use Rattle.ipnetwork_sets.specs.Sets.{IsAddressSet}

-- a step from one address and cut set to others: the addresses of the block that it passes are all cut, and from the
-- new address on both cut sets have the same addresses
pub record Skips (w : ℕ) (whole : Network) (from : ℕ) (cut : List Network) (next : ℕ)
    (left : List Network) : Type 0 where
  pub forward : from ≤ next
  pub passed : (x : ℕ) → Member w whole x → from ≤ x → x < next → InUnion w cut x
  pub same : (x : ℕ) → next ≤ x → InUnion w cut x ↔ InUnion w left x

-- the addresses from `first` to `last` are in the block and not in the cut set, and the range ends with the block or
-- before an address of the cut set
pub record IsFreeRange (w : ℕ) (whole : Network) (first last : ℕ) (cut : List Network) : Type 0 where
  pub begins : Member w whole first
  pub some : first ≤ last
  pub ends : last ≤ high w whole
  pub free : (x : ℕ) → first ≤ x → x ≤ last → ¬ (InUnion w cut x)
  pub longest : (last ≡ high w whole) ⊎ InUnion w cut (last + 1)

-- the state of a difference: the current block, if any, and the address of it that is next, the remaining blocks, and
-- the cut set
abbrev pub IsAtHand : ℕ → Option (Network × ℕ) → List Network → List Network → Type 0
IsAtHand w None rest cut = IsAddressSet w rest × IsAddressSet w cut
IsAtHand w (Some p) rest cut = IsAddressSet w (p.0 ∷ rest) × IsAddressSet w cut × Member w p.0 p.1

-- the current block and address are taken or, if there are none, the first of the remaining blocks from its start on
abbrev pub TakesPart : Option (Network × ℕ) → List Network → Network × ℕ → List Network → Type 0
TakesPart None rest p after = (rest ≡ p.0 ∷ after) × (p.1 ≡ p.0.address)
TakesPart (Some q) rest p after = (q ≡ p) × (rest ≡ after)

-- there is no current block, and no blocks remain
abbrev pub HasNoPart : Option (Network × ℕ) → List Network → Type 0
HasNoPart None rest = rest ≡ []
HasNoPart (Some q) rest = ⊥

-- x is in the current block, if there is one, and not before the next address
abbrev pub IsFrom : ℕ → Option (Network × ℕ) → ℕ → Type 0
IsFrom w None x = ⊥
IsFrom w (Some p) x = Member w p.0 x × (p.1 ≤ x)

-- x is in the current part or in the rest, and not in the cut set
abbrev pub InLeft : ℕ → Option (Network × ℕ) → List Network → List Network → ℕ → Type 0
InLeft w at_hand rest cut x = (IsFrom w at_hand x ⊎ InUnion w rest x) × ¬ (InUnion w cut x)

-- 1 if there is a current value, 0 if not
abbrev pub count_at_hand : {X : Type 0} → Option X → ℕ
count_at_hand None = 0
count_at_hand (Some p) = 1

-- the part of the whole after the block, if the whole does not end with it
abbrev pub IsNextPart : ℕ → Network → Network → Option (Network × ℕ) → Type 0
IsNextPart w whole block None = high w block ≡ high w whole
IsNextPart w whole block (Some p) = (p.0 ≡ whole) × (p.1 ≡ high w block + 1) × (high w block < high w whole)
