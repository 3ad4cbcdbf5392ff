-- Sets of addresses of w bits, as lists of blocks.
use Rattle.std.specs.Prelude.{◌≡◌, ℕ, ◌^◌, ◌<◌, ◌⊎◌, ◌++◌, List, map}
use Rattle.std.specs.List.{All}
use Rattle.ipnetwork_family.specs.Network.{Network, Member}
use Rattle.ipnetwork_blocks.specs.LeastList.{IsLeastList}
use Rattle.ipnetwork_blocks.specs.Aggregate.{InUnion, IsAggregate}

-- the list has the maximal blocks of its own union, in ascending order
abbrev pub IsAddressSet : ℕ → List Network → Type 0
IsAddressSet w blocks = IsAggregate w blocks blocks

-- each value of the list holds a network, and these networks are the blocks of a set
abbrev pub HoldSet : {H : Type 0} → ℕ → (H → Type 0) → (H → Network) → List H → Type 0
HoldSet w holds held list = All holds list × IsAddressSet w (map held list)

-- some address of the network is in the union of the others
abbrev pub MeetsUnion : ℕ → Network → List Network → Type 0
MeetsUnion w n networks = (x : ℕ) × Member w n x × InUnion w networks x

-- x is in both sets
abbrev pub InBoth : ℕ → List Network → List Network → ℕ → Type 0
InBoth w first second x = InUnion w first x × InUnion w second x

-- x is in the first set and not in the second
abbrev pub InFirstAlone : ℕ → List Network → List Network → ℕ → Type 0
InFirstAlone w first second x = InUnion w first x × ¬ (InUnion w second x)

-- x is in the network and not in the set
abbrev pub InNetworkAlone : ℕ → Network → List Network → ℕ → Type 0
InNetworkAlone w n networks x = Member w n x × ¬ (InUnion w networks x)

-- x is an address that is not in the set
abbrev pub InComplement : ℕ → List Network → ℕ → Type 0
InComplement w networks x = (x < 2 ^ w) × ¬ (InUnion w networks x)

-- x is in one of the two sets or in both
abbrev pub InEither : ℕ → List Network → List Network → ℕ → Type 0
InEither w first second x = InUnion w first x ⊎ InUnion w second x

-- each address of the first set is in the second
abbrev pub IsWithin : ℕ → List Network → List Network → Type 0
IsWithin w first second = (x : ℕ) → InUnion w first x → InUnion w second x

-- no address is in both sets
abbrev pub AreDisjoint : ℕ → List Network → List Network → Type 0
AreDisjoint w first second = (x : ℕ) → ¬ (InBoth w first second x)

-- the blocks of the set were appended to the list
abbrev pub AddsLeastList : ℕ → (ℕ → Type 0) → List Network → List Network → Type 0
AddsLeastList w set before after = (blocks : List Network) × IsLeastList w set blocks × (after ≡ before ++ blocks)

-- the first blocks of the set were appended to the list: all of them, some or none
abbrev pub AddsFirstOfLeastList : ℕ → (ℕ → Type 0) → List Network → List Network → Type 0
AddsFirstOfLeastList w set before after = (some : List Network) × (others : List Network)
    × IsLeastList w set (some ++ others) × (after ≡ before ++ some)
