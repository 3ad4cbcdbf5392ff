-- Sets of addresses as ranges, each given by its first and its last address.
use Rattle.std.specs.Prelude.{◌≡◌, ℕ, ◌+◌, ◌<◌, ◌≤◌, ◌↔◌, List, [], ◌∷◌, ◌++◌}
use Rattle.std.specs.List.{All, AllPairs, Contains}
use Rattle.ipnetwork_family.specs.Network.{Network}
use Rattle.ipnetwork_blocks.specs.LeastList.{IsLeastList}
use Rattle.ipnetwork_blocks.specs.Ranges.{FromTo}

-- the address is in some range of the list; a range whose first address comes after its last has no addresses
abbrev pub InRanges : List (ℕ × ℕ) → ℕ → Type 0
InRanges ranges x = (r : ℕ × ℕ) × Contains ranges r × FromTo r.0 r.1 x

-- the ranges have exactly the addresses of the set, in ascending order, and between each range and the next there is an
-- address that is not in the set
pub record IsRangeList (set : ℕ → Type 0) (ranges : List (ℕ × ℕ)) : Type 0 where
  pub addresses : (x : ℕ) → InRanges ranges x ↔ set x
  pub ordered : All (λ r. r.0 ≤ r.1) ranges
  pub apart : AllPairs (λ r s. r.1 + 1 < s.0) ranges

-- the blocks of each range of the list in turn, whether or not the ranges overlap
abbrev pub AreBlocksOf : ℕ → List (ℕ × ℕ) → List Network → Type 0
AreBlocksOf w [] blocks = blocks ≡ []
AreBlocksOf w (r ∷ rs) blocks = (first : List Network) × (others : List Network) × IsLeastList w (FromTo r.0 r.1) first
    × AreBlocksOf w rs others × (blocks ≡ first ++ others)
