-- Entries of a list: networks with values. Of several with the same block, the last one counts.
use Rattle.std.specs.Prelude.{◌≡◌, ◌↔◌, ℕ, List, ◌∷◌, ◌++◌, Some, IsSome, MatchOption}
use Rattle.std.specs.FinMap.{FinMap, get}
use Rattle.std.specs.List.{Contains}
use Rattle.ipnetwork_family.specs.Network.{Network, block_of, network_cmp}

-- no entry has this block
abbrev pub NoneHasBlock : {V : Type 0} → ℕ → Network → List (Network × V) → Type 0
NoneHasBlock {V} w block entries = (entry : Network × V) → Contains entries entry → ¬ (block_of w entry.0 ≡ block)

-- this is the value of the last entry with the block
pub record IsLastValue {V : Type 0} (w : ℕ) (block : Network) (entries : List (Network × V)) (value : V) : Type 0 where
  pub before : List (Network × V)
  pub network : Network
  pub behind : List (Network × V)
  pub entries_are : entries ≡ before ++ (network, value) ∷ behind
  pub has_block : block_of w network ≡ block
  pub is_last : NoneHasBlock w block behind

-- the keys of a table are the blocks of the entries, and each has the value of the last entry with that block
abbrev pub HasLastValues : {V : Type 0} → ℕ → List (Network × V) → FinMap network_cmp V → Type 0
HasLastValues w entries table = (block : Network)
    → MatchOption (get table block) (NoneHasBlock w block entries) (IsLastValue w block entries)

-- the keys of a table are the blocks of these networks
abbrev pub HasBlocksOf : {V : Type 0} → ℕ → List Network → FinMap network_cmp V → Type 0
HasBlocksOf w networks table = (block : Network)
    → IsSome (get table block) ↔ ((network : Network) × Contains networks network × (block_of w network ≡ block))

-- each block of the table has this value
abbrev pub HasValue : {V : Type 0} → V → FinMap network_cmp V → Type 0
HasValue {V} value table = (block : Network) (own : V) → get table block ≡ Some own → own ≡ value
