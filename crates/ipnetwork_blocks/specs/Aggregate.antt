-- Aggregation: the least list of blocks with the same union as a list of w-bit networks, with or without host bits.
use Rattle.std.specs.Prelude.{ℕ, ◌↔◌, List}
use Rattle.std.specs.List.{Contains}
use Rattle.ipnetwork_family.specs.Network.{Network, Member}
use Rattle.ipnetwork_blocks.specs.LeastList.{LiesIn, IsLeastList}

-- the address lies in the union of the networks: it is a member of one of them
abbrev pub InUnion : ℕ → List Network → ℕ → Type 0
InUnion w networks x = (n : Network) × Contains networks n × Member w n x

-- every address of the network lies in the union of the others
abbrev pub LiesInUnion : ℕ → Network → List Network → Type 0
LiesInUnion w b networks = LiesIn w (InUnion w networks) b

-- the unions of the two lists contain the same addresses
abbrev pub SameUnion : ℕ → List Network → List Network → Type 0
SameUnion w networks others = (x : ℕ) → InUnion w networks x ↔ InUnion w others x

-- the result contains exactly the maximal blocks of the networks' union, in ascending order
abbrev pub IsAggregate : ℕ → List Network → List Network → Type 0
IsAggregate w networks result = IsLeastList w (InUnion w networks) result
