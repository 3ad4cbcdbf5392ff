-- The laws of counts and of lists of ranges, for addresses of any number of bits.
use Rattle.std.specs.Prelude.{ℕ, ◌^◌, ◌<◌, ◌≤◌, List, length}
use Rattle.ipnetwork_family.specs.Network.{Network}
use Rattle.ipnetwork_blocks.specs.Aggregate.{InUnion}
use Rattle.ipnetwork_blocks.specs.LeastList.{IsLeastList}
use Rattle.ipnetwork_sets.specs.Counts.{HasCount, total}
use Rattle.ipnetwork_sets.specs.Sets.{IsAddressSet, InBoth, InFirstAlone}

-- the sizes of a set's blocks add up to the count of the set, which is at most 2 ^ w
abbrev pub SetAddsUp : Type 0
SetAddsUp = (w : ℕ) (blocks : List Network) → IsAddressSet w blocks → HasCount (InUnion w blocks) (total w blocks)
    × (total w blocks ≤ 2 ^ w)

-- the sizes of the blocks of an operation's result add up to the count of the result, which is at most 2 ^ w
abbrev pub CommonPartAddsUp : Type 0
CommonPartAddsUp = (w : ℕ) (a b blocks : List Network) → IsLeastList w (InBoth w a b) blocks
    → HasCount (InBoth w a b) (total w blocks) × (total w blocks ≤ 2 ^ w)

abbrev pub DifferenceAddsUp : Type 0
DifferenceAddsUp = (w : ℕ) (a b blocks : List Network) → IsLeastList w (InFirstAlone w a b) blocks
    → HasCount (InFirstAlone w a b) (total w blocks) × (total w blocks ≤ 2 ^ w)

-- if addresses have at least one bit, a set has fewer blocks than there are addresses
abbrev pub SetHasFewerBlocks : Type 0
SetHasFewerBlocks = (w : ℕ) (blocks : List Network) → 1 ≤ w → IsAddressSet w blocks → length blocks < 2 ^ w
