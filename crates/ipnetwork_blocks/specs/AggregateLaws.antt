-- The laws of aggregation, for addresses of any width.
use Rattle.std.specs.Prelude.{◌≡◌, ℕ, ◌<◌, ◌≤◌, ◌↔◌, ◌⊎◌, List, [], ◌∷◌, length}
use Rattle.std.specs.List.{All, AllPairs, Contains}
use Rattle.ipnetwork_family.specs.Network.{Network, IsNetwork, Member, Subnet, high}
use Rattle.ipnetwork_blocks.specs.Aggregate.{InUnion, LiesInUnion, SameUnion, IsAggregate}

-- no address lies in the union of an empty list
abbrev pub UnionOfNone : Type 0
UnionOfNone = (w x : ℕ) → ¬ (InUnion w [] x)

-- an address lies in the union of a non-empty list exactly if it is a member of the first network or lies in the union
-- of the others
abbrev pub UnionOfList : Type 0
UnionOfList = (w : ℕ) (n : Network) (others : List Network) (x : ℕ)
    → InUnion w (n ∷ others) x ↔ (Member w n x ⊎ InUnion w others x)

-- the aggregate of a list of networks has the same union as the list
abbrev pub AggregateHasUnion : Type 0
AggregateHasUnion = (w : ℕ) (networks blocks : List Network) → IsAggregate w networks blocks
    → SameUnion w blocks networks

-- each block of an aggregate ends before the next one begins
abbrev pub AggregateIsApart : Type 0
AggregateIsApart = (w : ℕ) (networks blocks : List Network) → IsAggregate w networks blocks
    → AllPairs (λ a b. high w a < b.address) blocks

-- no address lies in two blocks of an aggregate
abbrev pub AggregateHasOneBlock : Type 0
AggregateHasOneBlock = (w : ℕ) (networks blocks : List Network) (a b : Network) (x : ℕ) → IsAggregate w networks blocks
    → Contains blocks a → Contains blocks b
    → Member w a x → Member w b x → a ≡ b

-- a network lies in the union exactly if it lies in a single block of the aggregate
abbrev pub AggregateHasNetworks : Type 0
AggregateHasNetworks = (w : ℕ) (networks blocks : List Network) → IsAggregate w networks blocks → (n : Network)
    → IsNetwork w n
    → LiesInUnion w n networks ↔ ((b : Network) × Contains blocks b × Subnet w n b)

-- every list of networks with the same union has, for each block of the aggregate, a network that lies in that block
abbrev pub AggregateBlocksAreNeeded : Type 0
AggregateBlocksAreNeeded = (w : ℕ) (networks blocks others : List Network) → IsAggregate w networks blocks
    → All (IsNetwork w) others → SameUnion w others networks
    → (b : Network) → Contains blocks b → (n : Network) × Contains others n × Subnet w n b

-- no list of networks with the same union is shorter than the aggregate
abbrev pub AggregateIsLeast : Type 0
AggregateIsLeast = (w : ℕ) (networks blocks others : List Network) → IsAggregate w networks blocks
    → All (IsNetwork w) others → SameUnion w others networks
    → length blocks ≤ length others
