-- The ranges of a table, and what a look-up finds in each.
use Rattle.std.specs.Prelude.{ℕ, List, Option}
use Rattle.std.specs.FinMap.{FinMap, from_sorted}
use Rattle.ipnetwork_family.specs.Network.{Network, network_cmp}
use Rattle.ipnetwork_table.specs.Table.{by_pair}
use Rattle.ipnetwork_index.specs.declared.answers.Answers.{Answers}
use Rattle.ipnetwork_index.specs.declared.low_halves.LowHalves.{LowHalves}
use Rattle.ipnetwork_index.specs.Private.Answers.{IsAnswered}
use Rattle.ipnetwork_index.specs.Private.LowHalves.{ArePlacesOf}
use Rattle.ipnetwork_index.specs.Private.Sweeps.{HasEntries}

-- the table with these entries, which are in order
abbrev pub table_with : {N V : Type 0} → (N → Network) → List (N × V) → FinMap network_cmp V
table_with pair entries = from_sorted (by_pair pair entries)

-- these places are those of ranges, and the answers say what the table finds in each range
pub record IsIndexed {V : Type 0} (w : ℕ) (t : FinMap network_cmp V) (partition : Option (List ℕ))
    (halves : LowHalves) (answers : Answers V) : Type 0 where
  pub lasts : List ℕ
  pub placed : ArePlacesOf w partition halves.lows.items halves.starts.items halves.shift
      halves.words.items lasts
  pub answered : IsAnswered w t lasts answers.prefixes.items answers.values.items

-- `IsIndexed` holds for some table
abbrev pub IsIndexedForSome : {V : Type 0} → ℕ → Option (List ℕ) → LowHalves → Answers V → Type 0
IsIndexedForSome {V} w partition halves answers =
    (t : FinMap network_cmp V) × IsIndexed w t partition halves answers

-- `IsIndexed` holds for each table with these entries
abbrev pub IsIndexedForAll : {V : Type 0} → ℕ → List (Network × V) → Option (List ℕ) → LowHalves
    → Answers V → Type 0
IsIndexedForAll {V} w es partition halves answers = (t : FinMap network_cmp V) → HasEntries w t es
    → IsIndexed w t partition halves answers
