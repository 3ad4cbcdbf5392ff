-- Lists of blocks that a call reads or writes in the caller's memory.
use Rattle.std.specs.Prelude.{◌≡◌, ℕ, ◌≤◌, List, ◌++◌, drop, length, map, take}
use Rattle.std.specs.List.{All}
use Rattle.ipnetwork_family.specs.Network.{Network}
use Rattle.ipnetwork_blocks.specs.Aggregate.{InUnion, IsAggregate}
use Rattle.ipnetwork_blocks.specs.LeastList.{IsLeastList}
use Rattle.ipnetwork_sets.specs.Sets.{IsAddressSet}
use Rattle.ipnetwork_c.specs.Held.{PrefixFits}
use Rattle.ipnetwork_c.specs.Outcomes.{Writes, Puts}
use Rattle.ipnetwork_c.specs.Answers.{IfFit}
use Rattle.ipnetwork_c.specs.Searches.{StandsAt, LastFits}

-- the aggregate of a list's networks is put in its front and its length is written; the rest of the list is still
-- networks
abbrev pub Aggregates : {C : Type 0} → ℕ → (C → Network) → List C × ℕ → List C × ℕ → ℕ → Type 0
Aggregates w held before =
    IfFit (All (λ c. PrefixFits w (held c)) before.0)
    (Writes (λ after. (after.1 ≤ length before.0) × IsAggregate w (map held before.0) (map held (take after.1 after.0))
    × All (λ c. PrefixFits w (held c)) after.0)) before

-- the byte is 1 only if the address is in the union of the networks; if the networks are the blocks of a set, it is 1
-- exactly then
pub record FindsIn (w : ℕ) (networks : List Network) (x byte : ℕ) : Type 0 where
  pub flag : byte ≤ 1
  pub found : byte ≡ 1 → InUnion w networks x
  pub missed : IsAddressSet w networks → byte ≡ 0 → ¬ (InUnion w networks x)

-- whether the address is in the set of a list is written, if the prefix length of the last network that begins at or
-- before the address fits
abbrev pub SetQuery : {C : Type 0} → ℕ → (C → Network) → List C → ℕ → ℕ → ℕ → ℕ → Type 0
SetQuery w held list x before after code =
    (i : ℕ) × StandsAt (map held list) x i × IfFit (LastFits w (map held list) i)
    (Writes (FindsIn w (map held list) x)) before after code

-- the blocks are in the front of the list, and the rest of the list is unchanged
pub record StandInFront {C : Type 0} (held : C → Network) (blocks : List Network) (before after : List C) : Type 0 where
  pub front : List C
  pub blocks_are : map held front ≡ blocks
  pub list : after ≡ front ++ drop (length blocks) before

-- the shortest list of blocks of a set is put in the front of a list
abbrev pub PutsBlocks : {C : Type 0} → ℕ → (C → Network) → (ℕ → Type 0) → List C × ℕ → List C × ℕ → ℕ → Type 0
PutsBlocks w held set before after code =
    (blocks : List Network) × IsLeastList w set blocks
    × Puts (length blocks ≤ length before.0) (length blocks) (StandInFront held blocks before.0) before after code
