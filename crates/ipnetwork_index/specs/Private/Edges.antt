-- Where blocks cut the numbers of w bits.
use Rattle.std.specs.Prelude.{◌≡◌, ℕ, ◌+◌, ◌^◌, ◌<◌, List, IsSome}
use Rattle.std.specs.List.{Contains, flat_map}
use Rattle.std.specs.FinMap.{FinMap, get, entries}
use Rattle.ipnetwork_family.specs.Network.{Network, low, high, network_cmp}
use Rattle.ipnetwork_index.specs.Turns.{HasEdge}
use Rattle.ipnetwork_index.specs.Private.Partitions.{IsPartition}
use Rattle.ipnetwork_index.specs.Private.Cuts.{cuts_of}

-- for each block of a table, the last number before it, if any, and its own last number
abbrev pub edges_of : {V : Type 0} → ℕ → List (Network × V) → List ℕ
edges_of w entries = flat_map (λ e. cuts_of (low w e.0, high w e.0)) entries

-- a range ends with the last number of the network, and one with the number before the network, if any
pub record IsCutOut (w : ℕ) (lasts : List ℕ) (n : Network) : Type 0 where
  pub end : Contains lasts (high w n)
  pub start : (x : ℕ) → x + 1 ≡ low w n → Contains lasts x

-- the numbers are cut into ranges where blocks of the table begin and end, and nowhere else
pub record CutsOut {V : Type 0} (w : ℕ) (t : FinMap network_cmp V) (lasts : List ℕ) : Type 0 where
  pub partition : IsPartition w lasts
  pub blocks : (n : Network) → IsSome (get t n) → IsCutOut w lasts n
  pub only : (x : ℕ) → Contains lasts x → x + 1 < 2 ^ w → HasEdge w t x

-- `CutsOut` holds for each table with these entries
abbrev pub AreRangesOf : {V : Type 0} → ℕ → List (Network × V) → List ℕ → Type 0
AreRangesOf {V} w es lasts = (t : FinMap network_cmp V) → es ≡ entries t → CutsOut w t lasts
