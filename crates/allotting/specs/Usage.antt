-- How many addresses of each block of a pool are used.
use Rattle.std.specs.Prelude.{◌≡◌, ℕ, ◌≤◌, List, map}
use Rattle.std.specs.List.{All}
use Rattle.ipnetwork_family.specs.Network.{Network, Member, block_size}
use Rattle.ipnetwork_blocks.specs.Aggregate.{InUnion}
use Rattle.ipnetwork_sets.specs.Counts.{HasCount}

-- x is an address of the block that is used
abbrev pub IsUsedIn : ℕ → Network → List Network → ℕ → Type 0
IsUsedIn w block used x = Member w block x × InUnion w used x

-- each block of the pool, with the number of its used addresses, which is at most that of all its addresses
pub record AreUsed (w : ℕ) (pool used : List Network) (usage : List (Network × ℕ)) : Type 0 where
  pub blocks : map (λ one. one.0) usage ≡ pool
  pub counts : All (λ one. HasCount (IsUsedIn w one.0 used) one.1) usage
  pub within : All (λ one. one.1 ≤ block_size w one.0.prefix) usage
