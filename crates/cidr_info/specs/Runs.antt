-- How a run ends: its exit status, and what was written.
use Rattle.std.specs.Prelude.{◌≡◌, ◌≤◌, ◌⊎◌, ℕ, ◌==◌, ◌&&◌, ◌||◌, Bool, IsTrue, true, false, not, List, [], Option}
use Rattle.std.specs.Prelude.{None, Some, length, if◌then◌else◌, codes, String}
use Rattle.std.specs.List.{list_any, list_all}
use Rattle.std.specs.Option.{is_some, is_none}
use Rattle.ipnetwork.specs.Computed.IpNetworks.{is_ip_subnet}
use Rattle.ipnetwork.specs.declared.ip_network.IpNetwork.{IpNetwork}
use Rattle.lines.specs.Outputs.{Written, FailsIn}
use Rattle.lists.specs.Bytes.{IsAllOf, BytesStop}
use Rattle.lists.specs.KnownLists.{KnownLists}
use Rattle.lists.specs.declared.bytes.BytesFault.{BytesFault}
use Rattle.options.specs.Given.{is_given, value_of}
use Rattle.options.specs.Items.{items_of}
use Rattle.options.specs.Operands.{are_right_operands}
use Rattle.options.specs.declared.items.Item.{Item}
use Rattle.options.specs.declared.items.Mode.TheVariants as modes
use Rattle.options.specs.declared.table.Table.{Table}
use Rattle.program.specs.Endings.{Ending, IsSilent, Refuses, HasWritten}
use Rattle.program.specs.Runs.{EndsRun}
use Rattle.cidr_info.specs.Options as own
use Rattle.cidr_info.specs.Options.{IsOptions}
use Rattle.cidr_info.specs.Texts.{infos_text}
use Rattle.cidr_info.specs.declared.field.Form.{Form}
use Rattle.cidr_info.specs.declared.field.Form.TheVariants as forms
use Rattle.cidr_info.specs.Words.{network_in, networks_in, reads_input, words_said}

-- ---- the command line

-- the network that the value of `--in` names, if the option is given and its value names one
abbrev pub outer_of : List Item → Option IpNetwork
outer_of items = if is_given items own.in_network then network_in (value_of items own.in_network) else None

-- `--in` is not given, or its value names a network
abbrev pub is_outer_right : List Item → Bool
is_outer_right items = not (is_given items own.in_network) || is_some (outer_of items)

-- nothing is wrong with a command line, by its table of options, nor with the value of `--in`
abbrev pub are_right : Table → List Item → Bool
are_right table items = are_right_operands table items && is_outer_right items

-- ---- the answer

-- a text names a network, and that network lies within `outer`
abbrev pub is_within : IpNetwork → Option IpNetwork → Bool
is_within outer None = false
is_within outer (Some network) = is_ip_subnet network outer

-- each of the texts names a network that lies within `outer`
abbrev pub all_within : IpNetwork → List (Option IpNetwork) → Bool
all_within outer all = list_all (is_within outer) all

-- the exit status if every text names a network: 1 if `--in` names a network and one of theirs does not lie within it,
-- or there is no text; and else 0
abbrev pub within_status : Option IpNetwork → List (Option IpNetwork) → ℕ
within_status None all = 0
within_status (Some outer) all = if not (length all == 0) && all_within outer all then 0 else 1

-- the exit status: 2 if a text names no network, and else that of texts that each name one
abbrev pub status_of : Option IpNetwork → List (Option IpNetwork) → ℕ
status_of outer all = if list_any is_none all then 2 else within_status outer all

-- the form in which networks are printed
abbrev pub form_of : List Item → Form
form_of items =
    if is_given items own.json then forms.Json else if is_given items own.zones then forms.Zones else forms.Lines

-- what is printed: nothing if `--in` is given, and else the networks, in the form that the options ask for
abbrev pub answer_text : List Item → List (Option IpNetwork) → List ℕ
answer_text items all = if is_given items own.in_network then [] else infos_text (form_of items) (networks_in all)

-- ---- the run

-- the writer has failed, and took a beginning of what waited and of the text
abbrev pub FailsWriting : {W : Type 0} → Written W → Written W → List ℕ → Type 0
FailsWriting old new text = IsTrue new.failed × FailsIn old new text

-- either `text` was written and the exit status is `status`, or the writer failed and the exit status is 2
abbrev pub EndsWith : {W E : Type 0} → List ℕ → ℕ → Ending W E → Type 0
EndsWith text status end = (HasWritten end text × (end.status ≡ status))
    ⊎ (FailsWriting end.output end.output_after text × (end.status ≡ 2))

-- the run answered the words of the command line, with the lines of this input in the place of each `-`
abbrev pub EndsSaid : {W E : Type 0} → List Item → List (Option IpNetwork) → Ending W E → Type 0
EndsSaid items all end = EndsWith (answer_text items all) (status_of (outer_of items) all) end

-- these bytes are all of standard input, at most 1,073,741,824, if a word asks for it, and none otherwise
abbrev pub IsInput : KnownLists → List Item → List ℕ → Type 0
IsInput known items input =
    (reads_input items ≡ true → IsAllOf known (codes "-") input × (length input ≤ 1073741824))
    × (reads_input items ≡ false → input ≡ [])

-- a word asks for standard input, and this fault stopped the reading of it, of at most 1,073,741,824 bytes
abbrev pub NoInput : KnownLists → List Item → BytesFault → Type 0
NoInput known items fault = (reads_input items ≡ true) × BytesStop known (codes "-") 1073741824 fault

-- memory ran out, which the run reported and did nothing else
abbrev pub LacksMemory : {W E : Type 0} → Ending W E → Type 0
LacksMemory end = Refuses (codes "cidr_info: out of memory\n") end

-- the run ends without an answer, since memory ran out or standard input was not read; or it answered the words of the
-- command line, with what was read of standard input if a word asks for it
abbrev pub EndsReading : {W E : Type 0} → KnownLists → List Item → Ending W E → Type 0
EndsReading known items end = ((fault : BytesFault) × NoInput known items fault × IsSilent end)
    ⊎ ((input : List ℕ) × IsInput known items input × (LacksMemory end ⊎ EndsSaid items (words_said input items) end))

-- something is wrong with the command line, nothing was written and the exit status is 2; or nothing is wrong with it,
-- and the run ends as its words ask
abbrev pub EndsItems : {W E : Type 0} → Table → KnownLists → List Item → Ending W E → Type 0
EndsItems table known items end = ((are_right table items ≡ false) × IsSilent end)
    ⊎ ((are_right table items ≡ true) × EndsReading known items end)

-- how a run ends by the words of its command line, the program's help and version: it prints the help or the
-- version if the only word asks for it; otherwise memory ran out, or something is wrong with the words, and nothing was
-- written; or it ends by what the words say
abbrev pub EndsAs : {Z W E : Type 0} → List ℕ → List ℕ → KnownLists → List (String Z) → Ending W E → Type 0
EndsAs help version known words end =
    (table : Table) × IsOptions table × EndsRun help version words
    (LacksMemory end ⊎ EndsItems table known (items_of table.rows.now modes.Free words) end) end
