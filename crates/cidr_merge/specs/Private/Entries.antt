-- The entries of lists as the code holds them.
use Rattle.std.specs.Prelude.{◌≡◌, ◌≤◌, ℕ, Bool, List, ◌++◌, map, filter, length, take, drop}
use Rattle.std.specs.Prelude.{slice_index_or, if◌then◌else◌}
use Rattle.ipnetwork_addr.specs.declared.ip.IpAddr.{IpAddr}
use Rattle.ipnetwork_addr.specs.declared.ip.IpAddr.TheVariants.{V4, V6}
use Rattle.cidr_merge.specs.Overlaps.{Listed, reaches}
use Rattle.cidr_merge.specs.declared.placed.Placed.{Placed}

-- the address of a key: whether it is an IPv6 address, and its number
abbrev pub address_of : Bool × ℕ → IpAddr
address_of key = if key.0 then V6 key.1 else V4 key.1

-- an entry of the code as a listed entry
abbrev pub listed_as : Placed → Listed
listed_as placed = record {
  first = address_of placed.first;
  last = address_of placed.last.0;
  list = placed.list;
  number = placed.number;
}

-- these entries were added
abbrev pub Adds : List Listed → List Placed → List Placed → Type 0
Adds found before after = map listed_as after ≡ map listed_as before ++ found

-- whether an entry overlaps an earlier one
abbrev pub overlaps : Placed → Placed → Bool
overlaps later earlier = reaches (listed_as later) (listed_as earlier)

-- `answer` says whether the entry at one place overlaps the one at an earlier place
abbrev pub Overlaps : List Placed → ℕ → ℕ → Bool → Type 0
Overlaps entries place earlier answer =
    (later one : Placed) → later ≡ slice_index_or entries place later
    → one ≡ slice_index_or entries earlier one → answer ≡ overlaps later one

-- of the first `kept` entries, those that the entry at a place overlaps were moved to the front, in their order, and
-- the entries after the first `kept` have not changed
pub record KeepsReaching (before after : List Placed) (kept place count : ℕ) : Type 0 where
  pub front : (later : Placed) → later ≡ slice_index_or before place later
      → take count after ≡ filter (overlaps later) (take kept before)
  pub ahead : drop kept after ≡ drop kept before
  pub long : length after ≡ length before
  pub fewer : count ≤ kept
