-- Entries of lists that overlap.
use Rattle.std.specs.Prelude.{◌≡◌, ◌&&◌, ℕ, Bool, List, [], ◌∷◌, ◌++◌, map, filter, Option, None}
use Rattle.std.specs.Prelude.{Some, Result, Ok, Err, if◌then◌else◌, codes, String}
use Rattle.std.specs.List.{flat_map}
use Rattle.std.specs.List.Sorted.{IsPermutation, IsSorted}
use Rattle.std.specs.Ordering.{nat_cmp, ordering_then, is_le}
use Rattle.std.specs.declared.cmp.Ordering.{Ordering}
use Rattle.ipnetwork.specs.IpNetworks.{ip_low, ip_high}
use Rattle.ipnetwork_addr.specs.Either.{ip_cmp}
use Rattle.ipnetwork_addr.specs.declared.ip.IpAddr.{IpAddr}
use Rattle.lists.specs.declared.entry.Entry.{Entry}
use Rattle.lists.specs.declared.entry.Entry.TheVariants as entries
use Rattle.lists.specs.declared.fault.LineFault.{LineFault}
use Rattle.lists.specs.declared.rules.Rules.{Rules}
use Rattle.program.specs.Reported.{name_at}
use Rattle.cidr_merge.specs.Findings.{place_text}
use Rattle.cidr_merge.specs.NumberedLines.{NumberedLine, numbered_lines, said_by}

-- an entry: its first and its last address, the index of its list, from 0, and the number of its line, from 1
pub record Listed : Type 0 where
  pub first : IpAddr
  pub last : IpAddr
  pub list : ℕ
  pub number : ℕ

-- the first and the last address of an entry
abbrev pub ends_of : Entry → IpAddr × IpAddr
ends_of (entries.Network n) = (ip_low n, ip_high n)
ends_of (entries.Range first last) = (first, last)

abbrev pub listed : ℕ → ℕ → Entry → Listed
listed list number entry =
    record { first = (ends_of entry).0; last = (ends_of entry).1; list = list; number = number }

-- the entries of a line: one, or none if the line has no entry or is refused
abbrev pub entries_by : ℕ → ℕ → Result (Option Entry) LineFault → List Listed
entries_by list number (Ok None) = []
entries_by list number (Ok (Some entry)) = listed list number entry ∷ []
entries_by list number (Err fault) = []

abbrev pub line_entries : Rules → NumberedLine → List Listed
line_entries rules line = entries_by line.list line.number (said_by rules line.text)

-- the entries of lists with these bytes, by these rules
abbrev pub lists_entries : Rules → List (List ℕ) → List Listed
lists_entries rules texts = flat_map (line_entries rules) (numbered_lines 0 texts)

-- the order of entries: by the first address, then the last address in descending order, the list, and the line
abbrev pub listed_cmp : Listed → Listed → Ordering
listed_cmp a b = ordering_then (ip_cmp a.first b.first)
    (ordering_then (ip_cmp b.last a.last)
    (ordering_then (nat_cmp a.list b.list) (nat_cmp a.number b.number)))

-- `sorted` has the entries of `found` in that order
pub record IsInOrder (found sorted : List Listed) : Type 0 where
  pub same : IsPermutation found sorted
  pub ordered : IsSorted listed_cmp sorted

-- whether the first address is not after the second
abbrev pub is_up_to : IpAddr → IpAddr → Bool
is_up_to a b = is_le (ip_cmp a b)

-- whether an entry overlaps one that is before it in that order: its first address is not after the other's last
-- address
abbrev pub reaches : Listed → Listed → Bool
reaches later earlier = is_up_to later.first earlier.last

-- how the later entry overlaps the earlier one: it has the same addresses, lies in it, or neither
abbrev pub relation : Listed → Listed → List ℕ
relation later earlier =
    if is_up_to later.last earlier.last
    then (if is_up_to later.first earlier.first && is_up_to earlier.last later.last
    then codes "same as" else codes "in")
    else codes "overlaps"

-- the finding for two entries that overlap: `FILE:LINE: in FILE:LINE`
abbrev pub pair_text : {Z : Type 0} → List (String Z) → Listed → Listed → List ℕ
pair_text names later earlier =
    place_text (name_at names later.list) later.number ++ codes ": " ++ relation later earlier
    ++ codes " " ++ place_text (name_at names earlier.list) earlier.number ++ codes "\n"

-- the findings for an entry with each of the earlier ones that it overlaps
abbrev pub pairs_with : {Z : Type 0} → List (String Z) → List Listed → Listed → List (List ℕ)
pairs_with names before later = map (pair_text names later) (filter (reaches later) before)

-- the findings for the entries in order that follow the entries `before`
abbrev pub pairs_after : {Z : Type 0} → List (String Z) → List Listed → List Listed → List (List ℕ)
pairs_after names before [] = []
pairs_after names before (entry ∷ others) =
    pairs_with names before entry ++ pairs_after names (before ++ entry ∷ []) others

-- the findings for lists with these bytes, by these rules, where `finds` gives those for entries in order
abbrev pub OrderedFindings : (List Listed → List (List ℕ)) → Rules → List (List ℕ) → List (List ℕ) → Type 0
OrderedFindings finds rules texts findings =
    (sorted : List Listed) × IsInOrder (lists_entries rules texts) sorted × (findings ≡ finds sorted)
