-- The findings of an inspection of lists. A finding is a line of the output.
use Rattle.std.specs.Prelude.{◌≡◌, ◌==◌, ◌&&◌, ◌||◌, ◌-◌, get_or, ℕ, Bool, false, not, List, [], ◌∷◌, ◌++◌, length}
use Rattle.std.specs.Prelude.{Option, None, Some, Result, Ok, Err, if◌then◌else◌, codes, decimal}
use Rattle.std.specs.Prelude.{String, is_some}
use Rattle.std.specs.List.{flat_map}
use Rattle.std.specs.Str.Lines.{lines}
use Rattle.std.specs.String.{string_bytes}
use Rattle.ipnetwork_addr.specs.Computed.Ipv4Text.{v4_of}
use Rattle.lists.specs.Entries.{entry_text}
use Rattle.lists.specs.Faults.{line_fault_text}
use Rattle.lists.specs.Lines.{is_blank, trimmed, without_front}
use Rattle.lists.specs.Rules as entry_rules
use Rattle.lists.specs.Stopped.{ends_with_feed}
use Rattle.lists.specs.declared.entry.Entry.{Entry}
use Rattle.lists.specs.declared.fault.LineFault.{LineFault}
use Rattle.lists.specs.declared.fault.LineFault.TheVariants as faults
use Rattle.lists.specs.declared.forms.LineForm.{LineForm}
use Rattle.lists.specs.declared.forms.LineForm.TheVariants.{Plain, Csv, Ipset, Nft}
use Rattle.lists.specs.declared.rules.Rules.{Rules}
use Rattle.program.specs.Escapes.{escaped}
use Rattle.program.specs.Reported.{name_at}
use Rattle.program.specs.Usage.{shown}
use Rattle.cidr_merge.specs.NamedLists.{text_in}
use Rattle.cidr_merge.specs.NumberedLines.{NumberedLine, numbered_lines, said_by}

-- the place of a line: `FILE:LINE`, with the name as messages show it
abbrev pub place_text : List ℕ → ℕ → List ℕ
place_text name number = shown name ++ codes ":" ++ decimal number

-- the text shown of a refused line: the line itself, or nothing if it is too long
abbrev pub line_shown : LineFault → List ℕ → List ℕ
line_shown (faults.Entry fault) line = line
line_shown faults.Length line = []

-- the text between a fault and the text of its line
abbrev pub separator : List ℕ → List ℕ
separator line = if length line == 0 then [] else codes ": "

-- the finding for a refused line: `FILE:LINE: refused FAULT: TEXT`
abbrev pub refusal_text : List ℕ → ℕ → LineFault → List ℕ → List ℕ
refusal_text name number fault line =
    place_text name number ++ codes ": refused " ++ line_fault_text fault
    ++ separator (line_shown fault line) ++ escaped (line_shown fault line) ++ codes "\n"

-- whether an entry is a network with host bits
abbrev pub has_host_bits : Option Entry → Bool
has_host_bits None = false
has_host_bits (Some entry) = entry_rules.has_host_bits entry

-- the finding of a strict check for host bits: `FILE:LINE: host bits: TEXT`
abbrev pub host_bits_text : List ℕ → ℕ → List ℕ → List ℕ
host_bits_text name number line =
    place_text name number ++ codes ": host bits: " ++ escaped line ++ codes "\n"

abbrev pub host_findings : Bool → List ℕ → ℕ → List ℕ → List (List ℕ)
host_findings is_loose name number line =
    if is_loose then host_bits_text name number line ∷ [] else []

-- the findings for a line of the list of this name, strictly or not, by the result of reading the line
abbrev pub findings_by : Bool → List ℕ → ℕ → List ℕ → Result (Option Entry) LineFault
    → List (List ℕ)
findings_by strictly name number line (Ok said) =
    host_findings (strictly && has_host_bits said) name number line
findings_by strictly name number line (Err fault) = refusal_text name number fault line ∷ []

abbrev pub line_findings : {Z : Type 0} → Rules → Bool → List (String Z) → NumberedLine → List (List ℕ)
line_findings rules strictly names line =
    findings_by strictly (name_at names line.list) line.number line.text (said_by rules line.text)

-- the findings for all lines of the lists of these names and bytes, by these rules
abbrev pub lists_findings : {Z : Type 0} → Rules → Bool → List (String Z) → List (List ℕ) → List (List ℕ)
lists_findings rules strictly names texts =
    flat_map (line_findings rules strictly names) (numbered_lines 0 texts)

-- ---- the end of a list

-- the last byte of a line is a comma (44)
abbrev pub has_comma : List ℕ → Bool
has_comma line = get_or line (length line - 1) 0 == 44

-- the line, without the blanks before it, is as long as this text of it: nothing comes after that
abbrev pub ends_with_text : List ℕ → List ℕ → Bool
ends_with_text line text = length (without_front is_blank line) == length text

-- where masks are taken (`true`), a mask or wildcard may follow the line: it is an IPv4 address, with or without blanks
abbrev pub mask_may_follow : Bool → List ℕ → Bool
mask_may_follow masks line = masks && is_some (v4_of (trimmed line))

-- nothing comes after the entry of a line in this form: the line may go on. After a plain one no blank and no comment, or
-- only blanks if a mask may follow; in a line of ipset no blank, and in one of nftables no comma either; a line of CSV
-- names its last address, so that one with an entry is not cut
abbrev pub is_open_in : LineForm → Bool → List ℕ → Bool
is_open_in Plain masks line = ends_with_text line (entry_text line) || mask_may_follow masks line
is_open_in Csv masks line = false
is_open_in Ipset masks line = ends_with_text line (trimmed line)
is_open_in Nft masks line = ends_with_text line (trimmed line) && not (has_comma line)

abbrev pub is_open : Rules → List ℕ → Bool
is_open rules line = is_open_in rules.form rules.takes_masks line

-- the finding for a last line that may go on: `FILE:LINE: no line feed at the end: may be cut off: TEXT`
abbrev pub cut_text : List ℕ → ℕ → List ℕ → List ℕ
cut_text name number line =
    place_text name number ++ codes ": no line feed at the end: may be cut off: " ++ escaped line ++ codes "\n"

abbrev pub cut_if : Bool → List ℕ → ℕ → List ℕ → List (List ℕ)
cut_if may_go_on name number line = if may_go_on then cut_text name number line ∷ [] else []

-- whether a line has an entry and may go on
abbrev pub may_go_on : Rules → Option Entry → List ℕ → Bool
may_go_on rules None line = false
may_go_on rules (Some entry) line = is_open rules line

-- the findings for the last line, which no line feed ends, by the result of reading it: one if it has an entry and may
-- go on
abbrev pub cut_findings : Rules → List ℕ → ℕ → List ℕ → Result (Option Entry) LineFault → List (List ℕ)
cut_findings rules name number line (Ok said) = cut_if (may_go_on rules said line) name number line
cut_findings rules name number line (Err fault) = []

-- the last line of a text; empty if it has none
abbrev pub end_line : List ℕ → List ℕ
end_line text = get_or (lines text) (length (lines text) - 1) []

-- the findings for the end of a FILE of this name and bytes: none if it ends with a line feed
abbrev pub file_end_findings : Rules → List ℕ → List ℕ → List (List ℕ)
file_end_findings rules name text =
    if ends_with_feed text then []
    else cut_findings rules name (length (lines text)) (end_line text) (said_by rules (end_line text))

-- and for that of a list: none if it is a TEXT
abbrev pub end_as : Option (List ℕ) → Rules → List ℕ → List ℕ → List (List ℕ)
end_as (Some given) rules name text = []
end_as None rules name text = file_end_findings rules name text

abbrev pub end_findings : Rules → List ℕ → List ℕ → List (List ℕ)
end_findings rules name text = end_as (text_in name) rules name text

abbrev pub ends_findings : {Z : Type 0} → Rules → List (String Z) → List (List ℕ) → List (List ℕ)
ends_findings rules [] texts = []
ends_findings rules (name ∷ names) [] = []
ends_findings rules (name ∷ names) (text ∷ texts) =
    end_findings rules (string_bytes name) text ++ ends_findings rules names texts

abbrev pub ends_if : {Z : Type 0} → Bool → Rules → List (String Z) → List (List ℕ) → List (List ℕ)
ends_if strictly rules names texts = if strictly then ends_findings rules names texts else []

-- the Boolean says whether there is a finding
abbrev pub IsFound : List (List ℕ) → Bool → Type 0
IsFound findings found = found ≡ not (length findings == 0)
