-- How the lists are read.
use Rattle.std.specs.Prelude.{◌≡◌, ℕ, ◌+◌, ◌==◌, false, List, [], ◌∷◌, ◌⊎◌, bytes_eq, codes, if◌then◌else◌}
use Rattle.std.specs.Str.Lines.{lines}
use Rattle.ipnetwork_blocks.specs.Aggregate.{IsAggregate}
use Rattle.lists.specs.Lists.{ReadLists, nothing_read, at_list, TakesLines}
use Rattle.lists.specs.Refusals.{Refused, no_refusals}
use Rattle.lists.specs.KnownLists.{KnownLists}
use Rattle.lists.specs.Reading.{ReadsList, StopsAt, StopsAtText}
use Rattle.lists.specs.declared.forms.LineForm.{LineForm}
use Rattle.lists.specs.declared.forms.LineForm.TheVariants as forms
use Rattle.lists.specs.declared.named.ReadFault.{ReadFault}
use Rattle.lists.specs.declared.rules.Rules.{Rules}
use Rattle.log_programs.specs.Rows as rows
use Rattle.ipnetwork_family.specs.Network.{Network}
use Rattle.ipnetwork_sets.specs.IpSets.{v4_then_v6}
use Rattle.options.specs.Given.{is_given, value_of}
use Rattle.options.specs.declared.items.Item.{Item}
use Rattle.options.specs.declared.items.Item.TheVariants as says
use Rattle.cidr_filter.specs.Matcher.{HasBlocksOf}
use Rattle.cidr_filter.specs.Options as own
use Rattle.cidr_filter.specs.declared.matcher.Matcher.{Matcher}
use Rattle.cidr_filter.specs.declared.matcher.Matcher.TheVariants.{Addresses, Networks, Blocks}
use Rattle.cidr_filter.specs.declared.reading.Question.{Question}
use Rattle.cidr_filter.specs.declared.reading.Question.TheVariants as questions
use Rattle.cidr_filter.specs.declared.reading.Source.{Source}
use Rattle.cidr_filter.specs.declared.reading.Source.TheVariants as sources

-- what an option tells the program to read: `-f` the list with that name, `-e` its value, any other option nothing
abbrev pub source_by : ℕ → List ℕ → Source
source_by row value = if row == rows.list then sources.List value else if row == own.text then sources.Text value
    else sources.Nothing

abbrev pub source_of : Item → Source
source_of (says.Value row value) = source_by row value
source_of (says.Joined row value word) = source_by row value
source_of (says.Flag row) = sources.Nothing
source_of (says.File name) = sources.Nothing
source_of (says.Unknown word) = sources.Nothing
source_of (says.Lacks row) = sources.Nothing

abbrev pub Reads : KnownLists → ℕ → Source → ReadLists → ReadLists → Type 0
Reads known number (sources.List name) before after = ReadsList known number name before after
Reads known number (sources.Text text) before after = TakesLines (at_list before number) (lines text) after
Reads known number sources.Nothing before after = after ≡ before

abbrev pub ReadsItem : KnownLists → ℕ → Item → ReadLists → ReadLists → Type 0
ReadsItem known number item before after = Reads known number (source_of item) before after

-- these items are read in turn; the first has this number
abbrev pub ReadsItems : KnownLists → ℕ → List Item → ReadLists → ReadLists → Type 0
ReadsItems known number [] before after = after ≡ before
ReadsItems known number (item ∷ items) before after =
    (between : ReadLists) × ReadsItem known number item before between
    × ReadsItems known (number + 1) items between after

-- the reading stops at this source with this fault, and with these refused lines
abbrev pub StopsReadingOf : KnownLists → ℕ → Source → ReadLists → ReadFault → Refused → Type 0
StopsReadingOf known number (sources.List name) before fault refused = StopsAt known number name before fault refused
StopsReadingOf known number (sources.Text text) before fault refused = StopsAtText number text before fault refused
StopsReadingOf known number sources.Nothing before fault refused = ⊥

abbrev pub StopsAtItem : KnownLists → ℕ → Item → ReadLists → ReadFault → Refused → Type 0
StopsAtItem known number item before fault refused = StopsReadingOf known number (source_of item) before fault refused

-- the reading stops at the first of these items; or that one is read without running out of memory, and the reading
-- stops at a later one
abbrev pub StopsAtItems : KnownLists → ℕ → List Item → ReadLists → ReadFault → Refused → Type 0
StopsAtItems known number [] before fault refused = ⊥
StopsAtItems known number (item ∷ items) before fault refused =
    StopsAtItem known number item before fault refused
    ⊎ ((between : ReadLists) × ReadsItem known number item before between × (between.is_out_of_memory ≡ false)
    × StopsAtItems known (number + 1) items between fault refused)

-- the form of lists that a text names, or their own if it names none
abbrev pub form_called : List ℕ → LineForm
form_called text = if bytes_eq text (codes "csv") then forms.Csv else if bytes_eq text (codes "ipset") then forms.Ipset
    else if bytes_eq text (codes "nft") then forms.Nft else forms.Plain

-- the rules of the lists: with `--strict`, host bits are refused; with `--whole`, lists that do not end with a line
-- feed; with `--masks`, a mask or wildcard may be a second word; with `--read`, lines are in the form that it names
abbrev pub rules_of : List Item → Rules
rules_of items = record {
  refuses_host_bits = is_given items own.strict;
  is_whole = is_given items own.whole;
  takes_masks = is_given items own.masks;
  form = form_called (value_of items own.read);
}

-- the lists of a command line were read, and memory did not run out
pub record IsReadOf (known : KnownLists) (items : List Item) (read : ReadLists) : Type 0 where
  pub lists : ReadsItems known 0 items (nothing_read (rules_of items) no_refusals) read
  pub memory : read.is_out_of_memory ≡ false

-- what the options ask of the lists: the longest block that contains an address, whether they cover a network, or
-- whether they contain an address
abbrev pub question_of : List Item → Question
question_of items = if is_given items own.longest then questions.Block
    else if is_given items own.networks then questions.Network else questions.Address

-- the matcher holds the addresses of the networks that were read, or, with `--longest`, their blocks
abbrev pub HoldsRead : Question → ReadLists → Matcher → Type 0
HoldsRead question read (Addresses sets) = (question ≡ questions.Address) × IsAggregate 32 read.v4 sets.v4
    × IsAggregate 128 read.v6 sets.v6
HoldsRead question read (Networks set) = (question ≡ questions.Network) × (v4 : List Network) × (v6 : List Network)
    × IsAggregate 32 read.v4 v4 × IsAggregate 128 read.v6 v6 × (set ≡ v4_then_v6 v4 v6)
HoldsRead question read (Blocks tables) = (question ≡ questions.Block) × HasBlocksOf 32 read.v4 tables.v4
    × HasBlocksOf 128 read.v6 tables.v6
