-- What a search of lists for networks prints. Each of the texts is a line.
use Rattle.std.specs.Prelude.{ℕ, ◌&&◌, ◌==◌, Bool, List, [], ◌∷◌, ◌++◌, Option, None, Some, Result, Ok}
use Rattle.std.specs.Prelude.{Err, if◌then◌else◌, codes, is_err, String}
use Rattle.std.specs.List.{flat_map, list_any}
use Rattle.ipnetwork_addr.specs.declared.ip.IpAddr.{IpAddr}
use Rattle.ipnetwork.specs.declared.ip_network.IpNetwork.{IpNetwork}
use Rattle.ipnetwork_family.specs.NetworkText.{slash}
use Rattle.lists.specs.declared.entry.Entry.{Entry}
use Rattle.lists.specs.declared.entry.Entry.TheVariants as entries
use Rattle.lists.specs.declared.fault.LineFault.{LineFault}
use Rattle.lists.specs.declared.rules.Rules.{Rules}
use Rattle.program.specs.Escapes.{escaped}
use Rattle.program.specs.Reported.{name_at}
use Rattle.cidr_merge.specs.Findings.{place_text}
use Rattle.cidr_merge.specs.NumberedLines.{NumberedLine, is_range, numbered_lines, said_by}
use Rattle.cidr_merge.specs.Overlaps.{ends_of}
use Rattle.cidr_merge.specs.declared.entry_match.Relation.{Relation}
use Rattle.cidr_merge.specs.declared.entry_match.Relation.TheVariants.{HasAll, LiesIn, Meets, Apart}

-- whether the addresses between two ends share one with those between two others, and whether they have all of these
abbrev pub do_meet : IpAddr × IpAddr → IpAddr × IpAddr → Bool
do_meet ends others = is_range ends.0 others.1 && is_range others.0 ends.1

abbrev pub has_all : IpAddr × IpAddr → IpAddr × IpAddr → Bool
has_all ends others = is_range ends.0 others.0 && is_range others.1 ends.1

-- how the addresses between two ends, those of an entry, relate to those between two others, those of a network
abbrev pub relation_between : IpAddr × IpAddr → IpAddr × IpAddr → Relation
relation_between ends others =
    if do_meet ends others
    then (if has_all ends others then HasAll else if has_all others ends then LiesIn else Meets)
    else Apart

abbrev pub relation_of : Entry → IpNetwork → Relation
relation_of entry network = relation_between (ends_of entry) (ends_of (entries.Network network))

-- whether a text has a `/`
abbrev pub has_slash : List ℕ → Bool
has_slash text = list_any (λ byte. byte == slash) text

-- what is reported of an entry that has all addresses of the network that a text names: a text without a `/` is an address
abbrev pub has_words : List ℕ → List ℕ
has_words text = if has_slash text then codes ": has all of " else codes ": has "

-- a line about an entry: `FILE:LINE: has all of NETWORK: TEXT`
abbrev pub relation_text : List ℕ → ℕ → List ℕ → List ℕ → List ℕ → List ℕ
relation_text name number words text line =
    place_text name number ++ words ++ text ++ codes ": " ++ escaped line ++ codes "\n"

-- what is printed of the entry of a line of this list for the network that a text names: a line by the relation, or
-- nothing if they share no address
abbrev pub lines_by : List ℕ → ℕ → List ℕ → List ℕ → Relation → List (List ℕ)
lines_by name number line text HasAll = relation_text name number (has_words text) text line ∷ []
lines_by name number line text LiesIn = relation_text name number (codes ": lies in ") text line ∷ []
lines_by name number line text Meets = relation_text name number (codes ": meets ") text line ∷ []
lines_by name number line text Apart = []

abbrev pub match_lines : List ℕ → ℕ → List ℕ → Entry → List ℕ × IpNetwork → List (List ℕ)
match_lines name number line entry sought = lines_by name number line sought.0 (relation_of entry sought.1)

-- the lines printed for a line, by what it says: one for each text whose network its entry meets, in turn
abbrev pub matches_by : List (List ℕ × IpNetwork) → List ℕ → ℕ → List ℕ
    → Result (Option Entry) LineFault → List (List ℕ)
matches_by sought name number line (Ok None) = []
matches_by sought name number line (Ok (Some entry)) =
    flat_map (match_lines name number line entry) sought
matches_by sought name number line (Err fault) = []

abbrev pub line_matches : {Z : Type 0} → Rules → List (List ℕ × IpNetwork) → List (String Z) → NumberedLine
    → List (List ℕ)
line_matches rules sought names line =
    matches_by sought (name_at names line.list) line.number line.text (said_by rules line.text)

-- what is printed for all lines of the lists of these names and bytes, by these rules
abbrev pub lists_matches : {Z : Type 0} → Rules → List (List ℕ × IpNetwork) → List (String Z) → List (List ℕ)
    → List (List ℕ)
lists_matches rules sought names texts = flat_map (line_matches rules sought names) (numbered_lines 0 texts)

-- whether a line is refused, and whether one of the lists of these bytes is
abbrev pub is_refused : Rules → NumberedLine → Bool
is_refused rules line = is_err (said_by rules line.text)

abbrev pub has_refused : Rules → List (List ℕ) → Bool
has_refused rules texts = list_any (is_refused rules) (numbered_lines 0 texts)
