-- What is concluded from the laws of least lists.
use Rattle.std.specs.Prelude.{◌≡◌, ℕ, ◌<◌, ◌≤◌, ◌↔◌, List, length}
use Rattle.std.specs.List.{All, AllPairs}
use Rattle.ipnetwork_family.specs.Network.{Network, IsNetwork, high}
use Rattle.ipnetwork_blocks.specs.Aggregate.{InUnion}
use Rattle.ipnetwork_blocks.specs.LeastList.{IsLeastList}

-- the blocks have exactly the addresses of the set, each ends before the next one begins, no list of networks with the
-- same addresses is shorter, and no other list is a least list of the set
abbrev pub IsTheLeast : ℕ → (ℕ → Type 0) → List Network → Type 0
IsTheLeast w set blocks = ((x : ℕ) → InUnion w blocks x ↔ set x) × AllPairs (λ a b. high w a < b.address) blocks
    × ((others : List Network) → All (IsNetwork w) others → ((x : ℕ) → InUnion w others x ↔ set x)
    → length blocks ≤ length others)
    × ((others : List Network) → IsLeastList w set others → others ≡ blocks)
