-- Which lines of a log are selected.
use Rattle.std.specs.Prelude.{◌≡◌, ℕ, ◌+◌, ◌-◌, ◌^◌, ◌<◌, ◌≤◌, ◌⊎◌, Bool, true, false, not, List, [], ◌∷◌, ◌++◌, Option}
use Rattle.std.specs.Prelude.{◌&&◌, None, Some, length, filter, flat_map, codes, decimal, min, nat_le}
use Rattle.std.specs.Prelude.{if◌then◌else◌}
use Rattle.std.specs.List.{AllByRecursion}
use Rattle.ipnetwork_addr.specs.declared.ip.IpAddr.{IpAddr}
use Rattle.ipnetwork_addr.specs.declared.ip.IpAddr.TheVariants as addresses
use Rattle.ipnetwork.specs.Computed.IpNetworkText.{ip_network_of}
use Rattle.ipnetwork.specs.IpNetworkText.{ip_network_text}
use Rattle.ipnetwork.specs.declared.ip_network.IpNetwork.{IpNetwork}
use Rattle.line_addresses.specs.Addresses.{Spelled}
use Rattle.line_addresses.specs.Areas.{spelled_in}
use Rattle.program.specs.LogLines.{LogLine}
use Rattle.log_programs.specs.ByteOrderMarks.{judged}
use Rattle.log_programs.specs.InTurn.{Ends, InTurn}
use Rattle.log_programs.specs.LogReads.{OfLine}
use Rattle.log_programs.specs.LogStats.{nothing, with_line, with_long}
use Rattle.log_programs.specs.declared.log_stats.LogStats.{LogStats}
use Rattle.cidr_filter.specs.declared.log.Tally.{Tally}
use Rattle.cidr_filter.specs.Matcher.{IsIn, IsToldBlock, address_named, asked, covers_named, has_form, reads_networks}
use Rattle.log_programs.specs.WithoutAddress.{is_stopped}
use Rattle.log_programs.specs.declared.without_address.WithoutAddress.{WithoutAddress}
use Rattle.log_programs.specs.declared.without_address.WithoutAddress.TheVariants as without
use Rattle.cidr_filter.specs.declared.filter.Family.{Family}
use Rattle.cidr_filter.specs.declared.filter.Family.TheVariants as families
use Rattle.cidr_filter.specs.declared.filter.Filter.{Filter}
use Rattle.cidr_filter.specs.declared.filter.OutputMode.{OutputMode}
use Rattle.cidr_filter.specs.declared.filter.OutputMode.TheVariants as shows
use Rattle.cidr_filter.specs.declared.filter.Verdict.{Verdict}
use Rattle.cidr_filter.specs.declared.filter.Verdict.TheVariants as verdicts
use Rattle.cidr_filter.specs.declared.matcher.Matcher.{Matcher}
use Rattle.cidr_filter.specs.declared.matcher.Matcher.TheVariants.{Addresses, Networks, Blocks}

-- what was found in a line is in the lists
abbrev pub IsListed : Filter → Spelled → Type 0
IsListed filter found = IsIn filter.listed filter.mapped found

-- what is reported about an address in the lists: nothing, or, with `--longest`, the longest block that contains it
abbrev pub TellsBlock : Matcher → Bool → IpAddr → Option IpNetwork → Type 0
TellsBlock (Addresses sets) mapped address told = told ≡ None
TellsBlock (Networks set) mapped address told = told ≡ None
TellsBlock (Blocks tables) mapped address told = (block : IpNetwork) × (told ≡ Some block)
    × IsToldBlock tables mapped address block

abbrev pub TellsOf : Filter → Spelled → Option IpNetwork → Type 0
TellsOf filter found told = TellsBlock filter.listed filter.mapped found.address told

abbrev pub is_v4 : IpAddr → Bool
is_v4 (addresses.V4 address) = true
is_v4 (addresses.V6 address) = false

-- an address counts, of which `first` is looked up first: with `-4` by that one, with `-6` as it is, so that an
-- IPv4-mapped one counts as both with `--mapped`
abbrev pub is_of : Family → IpAddr → IpAddr → Bool
is_of families.Either first address = true
is_of families.V4 first address = is_v4 first
is_of families.V6 first address = not (is_v4 address)

-- the address by which what was found counts as IPv4: the one that is looked up first; with `--networks` and
-- `--mapped`, an IPv4 one only if all addresses of the network are IPv4 or IPv4-mapped
abbrev pub address_asked : Filter → Spelled → IpAddr
address_asked filter found = if reads_networks filter.listed && filter.mapped
    then address_named found.address (ip_network_of found.text) else asked filter.mapped found.address

abbrev pub is_of_family : Filter → Spelled → Bool
is_of_family filter found = is_of filter.family (address_asked filter found) found.address

-- what counts of what was found
abbrev pub of_family : Filter → List Spelled → List Spelled
of_family given found = filter (is_of_family given) found

-- the addresses of a line in the area searched, and, with `--networks`, its networks
abbrev pub sought_in : Filter → List ℕ → List Spelled
sought_in filter line = spelled_in (reads_networks filter.listed) filter.area line

-- those of them that count
abbrev pub addresses_in : Filter → List ℕ → List Spelled
addresses_in filter line = of_family filter (sought_in filter line)

-- one of the addresses is in the lists, and `told` is what is reported about the first that is
abbrev pub FirstListed : Filter → List Spelled → Option IpNetwork → Type 0
FirstListed filter [] told = ⊥
FirstListed filter (address ∷ addresses) told =
    (IsListed filter address × TellsOf filter address told)
    ⊎ (¬ (IsListed filter address) × FirstListed filter addresses told)

-- none of the addresses is in the lists
abbrev pub NoneListed : Filter → List Spelled → Type 0
NoneListed filter addresses = AllByRecursion (λ address. ¬ (IsListed filter address)) addresses

-- the verdict on a line with these addresses
abbrev pub IsVerdictOfAddresses : Filter → List Spelled → Verdict → Type 0
IsVerdictOfAddresses filter addresses (verdicts.Inside told) = FirstListed filter addresses told
IsVerdictOfAddresses filter addresses verdicts.Outside = (0 < length addresses) × NoneListed filter addresses
IsVerdictOfAddresses filter addresses verdicts.NoAddress = addresses ≡ []
IsVerdictOfAddresses filter addresses verdicts.TooLong = ⊥

-- the verdict on a line, given without its end, if so many lines of its log come before it. A line of more than
-- 1,048,576 bytes is too long, whatever is in it
abbrev pub IsVerdict : Filter → ℕ → List ℕ → Verdict → Type 0
IsVerdict filter before line (verdicts.Inside told) = (length line ≤ 1048576)
    × IsVerdictOfAddresses filter (addresses_in filter (judged before line)) (verdicts.Inside told)
IsVerdict filter before line verdicts.Outside = (length line ≤ 1048576)
    × IsVerdictOfAddresses filter (addresses_in filter (judged before line)) verdicts.Outside
IsVerdict filter before line verdicts.NoAddress = (length line ≤ 1048576)
    × IsVerdictOfAddresses filter (addresses_in filter (judged before line)) verdicts.NoAddress
IsVerdict filter before line verdicts.TooLong = 1048576 < length line

-- lines without an address are selected
abbrev pub is_kept : WithoutAddress → Bool
is_kept without.Keep = true
is_kept other = false

-- a line is selected if it is inside the lists, or, with `-v`, outside; a line without an address, if these are kept
abbrev pub is_selected : Filter → Verdict → Bool
is_selected filter (verdicts.Inside told) = not filter.inverts
is_selected filter verdicts.Outside = filter.inverts
is_selected filter verdicts.NoAddress = is_kept filter.bad
is_selected filter verdicts.TooLong = false

-- with `--bad stop`, a line that has no address or is too long ends the run
abbrev pub is_refused : Filter → Verdict → Bool
is_refused filter (verdicts.Inside told) = false
is_refused filter verdicts.Outside = false
is_refused filter verdicts.NoAddress = is_stopped filter.bad
is_refused filter verdicts.TooLong = is_stopped filter.bad

-- the block that is printed before a line of this verdict
abbrev pub block_in : Verdict → Option IpNetwork
block_in (verdicts.Inside told) = told
block_in verdicts.Outside = None
block_in verdicts.NoAddress = None
block_in verdicts.TooLong = None

-- the canonical text of a block, or a minus sign if there is none
abbrev pub block_text : Option IpNetwork → List ℕ
block_text None = codes "-"
block_text (Some block) = ip_network_text block

-- what is printed before a line with this verdict: with `--longest`, that text and a tab
abbrev pub mark_of : Matcher → Verdict → List ℕ
mark_of (Addresses sets) verdict = []
mark_of (Networks set) verdict = []
mark_of (Blocks tables) verdict = block_text (block_in verdict) ++ 9 ∷ []

-- the test whether what was found is in the lists, for `-o`. For blocks it is false, since `-o` is not given together
-- with `--longest`
abbrev pub is_listed : Matcher → Bool → Spelled → Bool
is_listed (Addresses sets) mapped found = has_form sets mapped found.address
is_listed (Networks set) mapped found = covers_named set mapped found.text
is_listed (Blocks tables) mapped found = false

-- the byte after the name of a log: with `-Z` NUL, else a colon (58) or a line feed (10)
abbrev pub behind_name : Bool → ℕ → ℕ
behind_name nul other = if nul then 0 else other

-- what is printed first: with `-H`, the name of the log and a colon, or with `-Z` NUL; with `-n`, the number of the
-- line, at most 2^64 - 1, and a colon
abbrev pub name_head : Bool → List ℕ → List ℕ
name_head nul [] = []
name_head nul (byte ∷ name) = byte ∷ name ++ behind_name nul 58 ∷ []

abbrev pub number_head : Bool → ℕ → List ℕ
number_head numbered number = if numbered then decimal (min number (2 ^ 64 - 1)) ++ 58 ∷ [] else []

abbrev pub head_of : Filter → ℕ → List ℕ
head_of filter number = name_head filter.nul filter.name ++ number_head filter.numbered number

-- what was found is printed with `-o`, if it counts and is in the lists
abbrev pub is_printed : Filter → Spelled → Bool
is_printed filter found = is_of_family filter found && is_listed filter.listed filter.mapped found

-- what `-o` prints for it: the head, its text and a line feed
abbrev pub text_of : Filter → List ℕ → Spelled → List ℕ
text_of filter head found = if is_printed filter found then head ++ (found.text ++ 10 ∷ []) else []

abbrev pub texts_of : Filter → List ℕ → List Spelled → List ℕ
texts_of filter head found = flat_map (text_of filter head) found

-- lines are only counted
abbrev pub is_count : OutputMode → Bool
is_count shows.Count = true
is_count other = false

-- what is printed for a selected line; `line` is the part of it that is judged, `text` the line as it is printed:
-- the head, the mark and the line; with `-o`, its addresses that are in the lists, each after the
-- head; with `-l`, the name of its log, and a line feed or with `-Z` NUL; with `-c` and with `-q`, nothing
abbrev pub shown_by : OutputMode → Filter → List ℕ → Verdict → List ℕ → List ℕ → List ℕ
shown_by shows.Lines filter head verdict line text = head ++ (mark_of filter.listed verdict ++ text)
shown_by shows.Addresses filter head verdict line text = texts_of filter head (sought_in filter line)
shown_by shows.Count filter head verdict line text = []
shown_by shows.Names filter head verdict line text = filter.name ++ behind_name filter.nul 10 ∷ []
shown_by shows.Nothing filter head verdict line text = []

abbrev pub shown_of : Filter → List ℕ → Verdict → List ℕ → List ℕ → List ℕ
shown_of filter head verdict line text = shown_by filter.shows filter head verdict line text

-- the counts of the lines of a log, and one line more, with this verdict. Each stops at 2^64 - 1
abbrev pub fresh : Tally
fresh = record { selected = 0; seen = nothing }

abbrev pub seen_with : LogStats → Verdict → LogStats
seen_with seen (verdicts.Inside told) = with_line seen true
seen_with seen verdicts.Outside = with_line seen true
seen_with seen verdicts.NoAddress = with_line seen false
seen_with seen verdicts.TooLong = with_long seen

abbrev pub counted : Tally → Verdict → Bool → Tally
counted tally verdict selected = record {
  selected = min (tally.selected + (if selected then 1 else 0)) (2 ^ 64 - 1);
  seen = seen_with tally.seen verdict;
}

abbrev pub tally_with : Filter → Tally → Verdict → Tally
tally_with filter tally verdict = counted tally verdict (is_selected filter verdict)

-- what is written for the line with this verdict that comes next: something if it is selected, else nothing; `line` is
-- it without its end, `text` as it is printed
abbrev pub shown : Filter → Tally → Verdict → List ℕ → List ℕ → List ℕ
shown filter tally verdict line text = if is_selected filter verdict
    then shown_of filter (head_of filter (tally_with filter tally verdict).seen.lines) verdict
    (judged tally.seen.lines line) text else []

-- nothing is printed, and the run ends at the first selected line
abbrev pub is_silent : OutputMode → Bool
is_silent shows.Nothing = true
is_silent other = false

-- no more lines may be selected; `None` is no limit
abbrev pub is_spent : Option ℕ → ℕ → Bool
is_spent None selected = false
is_spent (Some most) selected = nat_le most selected

-- what the next line prints, and the counts with it, or `None` if it ends the run; those before it have the counts
-- `tally`; `line` is it without its end, `text` as it is printed
abbrev pub FiltersLine : Filter → Tally → List ℕ → List ℕ → List ℕ → Option Tally → Type 0
FiltersLine filter tally line text output next = (verdict : Verdict)
    × IsVerdict filter tally.seen.lines line verdict
    × (((is_refused filter verdict ≡ true) × Ends None output next)
    ⊎ ((is_refused filter verdict ≡ false) × (output ≡ shown filter tally verdict line text)
    × (next ≡ Some (tally_with filter tally verdict))))

-- no line more may be selected
abbrev pub is_full : Filter → Tally → Bool
is_full filter tally = is_spent filter.most tally.selected

-- what the lines of a log print, and its counts, or `None` if a line ends the run; those before them have the counts
-- `tally`. No line is looked at after the last that may be selected. If a device failed (`cut`), the log may end before
-- any line
abbrev pub Filters : Bool → Filter → Tally → List LogLine → List ℕ → Option Tally → Type 0
Filters cut filter tally lines output end =
    InTurn (is_full filter) (OfLine (FiltersLine filter)) cut tally lines output end
