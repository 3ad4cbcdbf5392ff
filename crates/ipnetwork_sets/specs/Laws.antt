-- The laws of the operations on sets, for addresses of any number of bits.
use Rattle.std.specs.Prelude.{ℕ, List}
use Rattle.ipnetwork_family.specs.Network.{Network}
use Rattle.ipnetwork_blocks.specs.LeastList.{IsLeastList}
use Rattle.ipnetwork_blocks.specs.LeastListLaws.{IsShortest}
use Rattle.ipnetwork_sets.specs.Sets.{InBoth, InFirstAlone, InNetworkAlone, InEither}

-- the blocks of an operation's result are the shortest list of its addresses
abbrev pub CommonPartIsShortest : Type 0
CommonPartIsShortest = (w : ℕ) (a b blocks : List Network) → IsLeastList w (InBoth w a b) blocks
    → IsShortest w (InBoth w a b) blocks

abbrev pub DifferenceIsShortest : Type 0
DifferenceIsShortest = (w : ℕ) (a b blocks : List Network) → IsLeastList w (InFirstAlone w a b) blocks
    → IsShortest w (InFirstAlone w a b) blocks

abbrev pub FreePartIsShortest : Type 0
FreePartIsShortest = (w : ℕ) (n : Network) (a blocks : List Network) → IsLeastList w (InNetworkAlone w n a) blocks
    → IsShortest w (InNetworkAlone w n a) blocks

abbrev pub UnionIsShortest : Type 0
UnionIsShortest = (w : ℕ) (a b blocks : List Network) → IsLeastList w (InEither w a b) blocks
    → IsShortest w (InEither w a b) blocks
