-- A run of adjacent blocks of one prefix length, given by its first and its last block.
use Rattle.std.specs.Prelude.{◌≡◌, ℕ, ◌+◌, ◌-◌, ◌/◌, ◌≤◌, List, [], map, Option, None, Some}
use Rattle.ipnetwork_family.specs.Network.{Network, IsNetwork, HostBitsAreZero, block_size, count_up}
use Rattle.ipnetwork_blocks.specs.Subnets.{block_number}

-- the blocks from the first to the last, or none
abbrev pub blocks_left : ℕ → Option Network → Network → List Network
blocks_left w None last = []
blocks_left w (Some first) last =
    let size : ℕ = block_size w first.prefix in
    map (block_number w first.prefix) (count_up (first.address / size) (last.address / size + 1 - first.address / size))

-- both are blocks, of the same prefix length, and first is not after last
pub record IsRun (w : ℕ) (first last : Network) : Type 0 where
  pub network : IsNetwork w last
  pub as_long : first.prefix ≡ last.prefix
  pub first_begins : HostBitsAreZero w first
  pub last_begins : HostBitsAreZero w last
  pub ordered : first.address ≤ last.address

abbrev pub AreEnds : ℕ → Option Network → Network → Type 0
AreEnds w None last = Unit {0}
AreEnds w (Some first) last = IsRun w first last
