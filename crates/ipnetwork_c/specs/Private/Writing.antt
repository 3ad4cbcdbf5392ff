-- Blocks put into a list, one after the other.
use Rattle.std.specs.Prelude.{◌≡◌, ℕ, ◌+◌, ◌-◌, ◌^◌, ◌≤◌, min, List, [], ◌∷◌, ◌++◌, length, map, Option}
use Rattle.std.specs.Iterator.{Drains}
use Rattle.ipnetwork_family.specs.Network.{Network}
use Rattle.ipnetwork_blocks.specs.LeastList.{IsLeastList}
use Rattle.ipnetwork_c.specs.Lists.{StandInFront}

-- the blocks were put into the list `before`, if it has room for them, and their number is returned, at most 2^128 - 1
pub record HasBlocks {C : Type 0} (held : C → Network) (blocks : List Network) (before after : List C)
    (count : ℕ) : Type 0 where
  pub counted : count ≡ min (length blocks) (2 ^ 128 - 1)
  pub rows : length after ≡ length before
  pub front : length blocks ≤ length before → StandInFront held blocks before after

-- the block is added after those that were put before
abbrev pub AddsBlock : {C : Type 0} → (C → Network) → Network → List C → List C → ℕ → Type 0
AddsBlock {C} held block before after count =
    (blocks : List Network) (start : List C) (next : ℕ) → next ≡ min (count + 1) (2 ^ 128 - 1)
    → HasBlocks held blocks start before count → HasBlocks held (blocks ++ block ∷ []) start after next

-- the items of an iterator are put in the front of a list, and their number is returned
abbrev pub PutsItems : {S N C : Type 0} → (S → Option N → S → Type 0) → (N → Network) → (C → Network) → S → List C
    → List C → ℕ → Type 0
PutsItems {S} {N} {C} steps pair held start before after count = (items : List N) × Drains steps start items
    × HasBlocks held (map pair items) before after count

-- the shortest list of blocks of a set is put in the front of a list, and its length is returned
abbrev pub PutsSet : {C : Type 0} → ℕ → (C → Network) → (ℕ → Type 0) → List C → List C → ℕ → Type 0
PutsSet w held set before after count = (blocks : List Network) × IsLeastList w set blocks
    × HasBlocks held blocks before after count
