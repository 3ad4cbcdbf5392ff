-- Lists of blocks in which no two can be joined: the front of a list that is being aggregated.
use Rattle.std.specs.Prelude.{◌≡◌, ℕ, ◌+◌, ◌-◌, ◌<◌, List, length, slice_index_or}
use Rattle.std.specs.List.{All, AllPairs}
use Rattle.ipnetwork_family.specs.Network.{Network, IsCidrBlock, Member, high, IsNetworkAtMost, Subnet}
use Rattle.ipnetwork_blocks.specs.Supernets.{parent}

-- a and b, which are different blocks, are the halves of one block
abbrev pub AreHalves : ℕ → Network → Network → Type 0
AreHalves w a b = (a.prefix ≡ b.prefix) × (0 < a.prefix) × Member w (parent w a) b.address

-- b begins after a ends, and they are not the halves of one block
abbrev pub Follows : ℕ → Network → Network → Type 0
Follows w a b = (high w a < b.address) × ¬ (AreHalves w a b)

-- the list consists of disjoint blocks in ascending order, and no two of them are the halves of one block
pub record AreJoined (w : ℕ) (list : List Network) : Type 0 where
  pub blocks : All (IsCidrBlock w) list
  pub pairs : AllPairs (Follows w) list

-- each network is at most the next one in network order
abbrev pub AreInOrder : List Network → Type 0
AreInOrder networks = (k : ℕ) (d : Network) → k + 1 < length networks
    → IsNetworkAtMost (slice_index_or networks k d) (slice_index_or networks (k + 1) d)

-- the network lies in the last of the blocks
abbrev pub LiesInLast : ℕ → List Network → Network → Type 0
LiesInLast w blocks n = (0 < length blocks) × Subnet w n (slice_index_or blocks (length blocks - 1) n)
