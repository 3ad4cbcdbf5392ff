-- Address pools: a network, and which of its addresses are taken.
use Rattle.std.specs.Prelude.{◌≡◌, ◌↔◌, ◌⊎◌, ℕ, List}
use Rattle.ipnetwork_family.specs.Network.{Network, Member}
use Rattle.ipnetwork_blocks.specs.Aggregate.{InUnion, LiesInUnion}
use Rattle.ipnetwork_sets.specs.FreeBlocks.{IsFirstFree}

-- a pool's network, and blocks with the taken addresses
pub record Pool : Type 0 where
  pub network : Network
  pub taken : List Network

-- the first free block of this prefix length is taken: its addresses become taken, in addition to the others
pub record Takes (before : Pool) (prefix : ℕ) (block : Network) (after : Pool) : Type 0 where
  pub same : after.network ≡ before.network
  pub first : IsFirstFree 32 before.network before.taken prefix block
  pub taken : (x : ℕ) → InUnion 32 after.taken x ↔ (InUnion 32 before.taken x ⊎ Member 32 block x)

-- a network is given back: its addresses, which were all taken, become free; the others stay as they were
pub record GivesBack (before : Pool) (network : Network) (after : Pool) : Type 0 where
  pub same : after.network ≡ before.network
  pub all : LiesInUnion 32 network before.taken
  pub taken : (x : ℕ) → InUnion 32 after.taken x ↔ (InUnion 32 before.taken x × ¬ (Member 32 network x))
