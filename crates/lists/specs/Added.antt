-- Which networks an entry adds to those that were read before.
use Rattle.std.specs.Prelude.{◌≡◌, ℕ, ◌^◌, ◌<◌, List, ◌++◌, [], ◌∷◌}
use Rattle.ipnetwork_addr.specs.declared.ip.IpAddr.{IpAddr}
use Rattle.ipnetwork_addr.specs.declared.ip.IpAddr.TheVariants.{V4, V6}
use Rattle.ipnetwork.specs.declared.ip_network.IpNetwork.{IpNetwork}
use Rattle.ipnetwork.specs.declared.ip_network.IpNetwork.TheVariants as networks
use Rattle.ipnetwork_family.specs.Network.{Network}
use Rattle.ipnetwork_blocks.specs.LeastList.{IsLeastList}
use Rattle.ipnetwork_blocks.specs.Ranges.{FromTo}
use Rattle.lists.specs.declared.entry.Entry.{Entry}
use Rattle.lists.specs.declared.entry.Entry.TheVariants as entries

-- the fewest blocks that have exactly the addresses from `first` to `last` were appended
abbrev pub AddsBlocks : ℕ → ℕ → ℕ → List Network → List Network → Type 0
AddsBlocks w first last before after = (blocks : List Network) × IsLeastList w (FromTo first last) blocks
    × (after ≡ before ++ blocks)

-- the blocks of the range were appended to the networks of its family, and those of the other family are unchanged;
-- both ends are of that family
abbrev pub AddsRange : List Network → List Network → IpAddr → IpAddr → List Network → List Network → Type 0
AddsRange v4 v6 (V4 first) (V4 last) new4 new6 = AddsBlocks 32 first last v4 new4 × (new6 ≡ v6) × (last < 2 ^ 32)
AddsRange v4 v6 (V4 first) (V6 last) new4 new6 = ⊥
AddsRange v4 v6 (V6 first) (V4 last) new4 new6 = ⊥
AddsRange v4 v6 (V6 first) (V6 last) new4 new6 = AddsBlocks 128 first last v6 new6 × (new4 ≡ v4) × (last < 2 ^ 128)

-- the network was appended, as it was read, to those of its family, and those of the other family are unchanged
abbrev pub AddsNetwork : List Network → List Network → IpNetwork → List Network → List Network → Type 0
AddsNetwork v4 v6 (networks.V4 n) new4 new6 = (new4 ≡ v4 ++ n ∷ []) × (new6 ≡ v6)
AddsNetwork v4 v6 (networks.V6 n) new4 new6 = (new6 ≡ v6 ++ n ∷ []) × (new4 ≡ v4)

-- the network of an entry was appended, or the blocks of its range
abbrev pub AddsEntry : List Network → List Network → Entry → List Network → List Network → Type 0
AddsEntry v4 v6 (entries.Network n) new4 new6 = AddsNetwork v4 v6 n new4 new6
AddsEntry v4 v6 (entries.Range first last) new4 new6 = AddsRange v4 v6 first last new4 new6
