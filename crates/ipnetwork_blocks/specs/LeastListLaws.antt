-- The laws of least lists, for addresses of any width.
use Rattle.std.specs.Prelude.{◌≡◌, ℕ, ◌<◌, ◌≤◌, ◌^◌, ◌↔◌, List, length}
use Rattle.std.specs.List.{All, AllPairs}
use Rattle.ipnetwork_family.specs.Network.{Network, IsNetwork, high}
use Rattle.ipnetwork_blocks.specs.Aggregate.{InUnion}
use Rattle.ipnetwork_blocks.specs.LeastList.{IsLeastList}
use Rattle.ipnetwork_blocks.specs.Ranges.{FromTo}

-- the blocks have exactly the addresses of the set, each ends before the next one begins, no shorter list of networks
-- has the same addresses, and no other list is a least list of the set
pub record IsShortest (w : ℕ) (set : ℕ → Type 0) (blocks : List Network) : Type 0 where
  pub addresses : (x : ℕ) → InUnion w blocks x ↔ set x
  pub apart : AllPairs (λ a b. high w a < b.address) blocks
  pub shortest : (networks : List Network) → All (IsNetwork w) networks → ((x : ℕ) → InUnion w networks x ↔ set x)
      → length blocks ≤ length networks
  pub one : (others : List Network) → IsLeastList w set others → others ≡ blocks

-- the least list of a range has these properties
abbrev pub RangeIsShortest : Type 0
RangeIsShortest = (w first last : ℕ) (blocks : List Network) → last < 2 ^ w → IsLeastList w (FromTo first last) blocks
    → IsShortest w (FromTo first last) blocks
