-- The numbers of blocks and addresses.
use Rattle.std.specs.Prelude.{ℕ, ◌↔◌, ◌^◌, ◌<◌, ◌≤◌, List, length}
use Rattle.ipnetwork_family.specs.Network.{Network}
use Rattle.ipnetwork_blocks.specs.Aggregate.{InUnion}
use Rattle.ipnetwork_sets.specs.Counts.{HasCount, total}

-- the blocks have exactly the addresses of the set, and their sizes add up to its count; that is at most `2 ^ w`, and
-- there are fewer blocks than that
pub record AddUp (w : ℕ) (set : ℕ → Type 0) (blocks : List Network) : Type 0 where
  pub addresses : (x : ℕ) → InUnion w blocks x ↔ set x
  pub count : HasCount set (total w blocks)
  pub within : total w blocks ≤ 2 ^ w
  pub fewer : 1 ≤ w → length blocks < 2 ^ w
