-- The blocks of a range of addresses, and blocks by their number.
use Rattle.std.specs.Prelude.{ℕ, ◌-◌, ◌^◌, ◌<◌, ◌≤◌, List}
use Rattle.ipnetwork_family.specs.Network.{Network}
use Rattle.ipnetwork_blocks.specs.Ranges.{FromTo}
use Rattle.ipnetwork_blocks.specs.Subnets.{subnet_number}
use Rattle.ipnetwork_c.specs.Numbers.{no_member, no_range}
use Rattle.ipnetwork_c.specs.Held.{PrefixFits}
use Rattle.ipnetwork_c.specs.Outcomes.{Writes, Needs}
use Rattle.ipnetwork_c.specs.Answers.{IfFit}
use Rattle.ipnetwork_c.specs.Lists.{PutsBlocks}

-- the shortest list of blocks of the addresses from first to last is put in a list; `no_range` if first > last
abbrev pub RangeOperation : {C : Type 0} → ℕ → (C → Network) → ℕ → ℕ → List C × ℕ → List C × ℕ → ℕ → Type 0
RangeOperation w held first last = Needs (first ≤ last) no_range (PutsBlocks w held (FromTo first last))

-- the block number i of prefix length p within a network, counted from 0, is written; `prefix` if p is less than the
-- network's prefix length or greater than w, and `no_member` if there are at most i such blocks
abbrev pub WritesSubnet : {C : Type 0} → ℕ → (C → Network → Type 0) → Network → ℕ → ℕ → C → C → ℕ → Type 0
WritesSubnet w Holds n p i =
    IfFit (PrefixFits w n × (n.prefix ≤ p) × (p ≤ w))
    (Needs (i < 2 ^ (p - n.prefix)) no_member (Writes (λ held. Holds held (subnet_number w n p i))))
