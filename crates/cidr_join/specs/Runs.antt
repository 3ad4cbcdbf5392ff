-- How a run ends: its exit status, and what was written.
use Rattle.std.specs.Prelude.{◌≡◌, ℕ, ◌&&◌, Bool, not, List, true, false, ◌⊎◌, Option, None, Some, if◌then◌else◌}
use Rattle.std.specs.Prelude.{codes, String}
use Rattle.lines.specs.Outputs.{Written}
use Rattle.lists.specs.KnownLists.{KnownLists}
use Rattle.program.specs.Endings.{Ending, IsSilent}
use Rattle.program.specs.Messages.{Reports}
use Rattle.log_programs.specs.Areas.{area_of}
use Rattle.log_programs.specs.InTurn.{InTurn}
use Rattle.log_programs.specs.LogsInTurn.{EndsLogs, Finishes, HasFailed}
use Rattle.log_programs.specs.Rows as rows
use Rattle.log_programs.specs.WithoutAddress.{bad_in}
use Rattle.options.specs.Given.{is_given, value_of, inputs_of}
use Rattle.options.specs.Runs as runs
use Rattle.options.specs.Values.{lengths_in}
use Rattle.options.specs.declared.items.Item.{Item}
use Rattle.options.specs.declared.table.Table.{Table}
use Rattle.cidr_join.specs.Options as own
use Rattle.cidr_join.specs.Options.{IsOptions}
use Rattle.cidr_join.specs.Joins.{counted_in, never, shown_in}
use Rattle.cidr_join.specs.Logs.{GivesOne}
use Rattle.cidr_join.specs.Lists.{AreRead, NotRead, are_cut, lines_of, lists_of}
use Rattle.cidr_join.specs.Routes.{no_networks}
use Rattle.cidr_join.specs.Takes.{Takes}
use Rattle.cidr_join.specs.Tallies.{Row, IsTally, named_in, rows_text}
use Rattle.cidr_join.specs.declared.answers.Answers.{Answers}
use Rattle.cidr_join.specs.declared.answers.Answers.TheVariants as answers
use Rattle.cidr_join.specs.declared.join.Join.{Join}
use Rattle.cidr_join.specs.declared.lengths.Lengths.{Lengths}
use Rattle.cidr_join.specs.declared.list.ListRules.{ListRules}
use Rattle.cidr_join.specs.declared.routes.Networks.{Networks}
use Rattle.cidr_join.specs.declared.routes.Routes.{Routes}

-- the last thing reported is that memory ran out
abbrev pub LacksMemory : {E : Type 0} → Written E → Type 0
LacksMemory {E} errors = (before : Written E) × Reports before errors (codes "cidr_join: out of memory\n")

-- memory ran out: nothing was written, and the exit status is 2
abbrev pub RunsOut : {W E : Type 0} → Ending W E → Type 0
RunsOut end = IsSilent end × LacksMemory end.errors_after

-- the exit status: 2 if a log ended the run, could not be opened, or has a line that is missed, else 0
abbrev pub status_by : Option Bool → ℕ
status_by None = 2
status_by (Some missed) = if missed then 2 else 0

-- the logs were joined, one after another, and their output was written
abbrev pub JoinsLogs : {W E : Type 0} → Join → KnownLists → List (List ℕ) → Ending W E → Type 0
JoinsLogs join known names end = EndsLogs never (GivesOne shown_in join known) status_by false known names end.output
    end.output_after end.status

-- what is counted for the lines of the logs, and whether one or a line of one is missed, or `None` if one ends the run
abbrev pub MarksLogs : Join → KnownLists → Bool → List (List ℕ) → List (List ℕ) → Option Bool → Type 0
MarksLogs join known cut names marks end = InTurn never (GivesOne counted_in join known cut) false false names marks end

-- the lines of the logs were counted, and their tally was written; or, if a log ended the run, nothing was written
abbrev pub EndsTally : {W E : Type 0} → Join → KnownLists → List (List ℕ) → Ending W E → Type 0
EndsTally join known names end =
    ((cut : Bool) × (marks : List (List ℕ)) × MarksLogs join known cut names marks None
    × (cut ≡ true → HasFailed known names end.output_after) × IsSilent end)
    ⊎ ((marks : List (List ℕ)) × (missed : Bool) × (rows : List Row)
    × MarksLogs join known false names marks (Some missed) × IsTally (named_in join) marks rows
    × Finishes end.output end.output_after (rows_text rows) (status_by (Some missed)) end.status)

-- what is printed for addresses by the routes of lists: networks or values
abbrev pub answers_by : Bool → Routes → Answers
answers_by network routes = if network then answers.Networks routes else answers.Values routes

-- what is printed for addresses by these networks
abbrev pub answers_of : List Item → Networks → Answers
answers_of items networks = answers_by (is_given items own.network) (record { v4 = networks.v4; v6 = networks.v6 })

-- what is asked for, if this is printed for addresses
abbrev pub join_of : List Item → Answers → Join
join_of items by = record {
  answers = by;
  area = area_of items;
  networks = is_given items own.networks;
  mapped = is_given items rows.mapped;
  last = is_given items own.last;
  bad = bad_in (value_of items own.bad);
  zeros = is_given items own.zeros;
}

-- how a run ends if this is printed for addresses: with `--tally`, the lines of the logs are counted, else joined
abbrev pub EndsBy : {W E : Type 0} → Bool → Join → KnownLists → List (List ℕ) → Ending W E → Type 0
EndsBy true join known names end = EndsTally join known names end
EndsBy false join known names end = JoinsLogs join known names end

abbrev pub EndsAsked : {W E : Type 0} → KnownLists → List Item → Answers → Ending W E → Type 0
EndsAsked known items by end = EndsBy (is_given items own.tally) (join_of items by) known (inputs_of items) end

-- how the lines of the lists are taken: with `--network` a value may be missing, with `--ranges` two addresses are a
-- range, with `--strict` networks with host bits are refused, with `--skip-bad` refused lines are left out
abbrev pub rules_of : List Item → ListRules
rules_of items = record {
  last_wins = is_given items own.last_wins;
  bare = is_given items own.network;
  ranges = is_given items own.ranges;
  strict = is_given items own.strict;
  skips = is_given items own.skips_bad;
}

-- how the run ends if the lists have these bytes: a refused line of one ends the run, and nothing is written; or the
-- logs are joined to their networks, or counted by them
abbrev pub EndsJoining : {W E : Type 0} → KnownLists → List Item → List (List ℕ) → Ending W E → Type 0
EndsJoining known items texts end = (Takes (rules_of items) no_networks (lines_of texts) None × IsSilent end)
    ⊎ ((networks : Networks) × Takes (rules_of items) no_networks (lines_of texts) (Some networks)
    × EndsAsked known items (answers_of items networks) end)

-- with `--whole`, nothing is written if a list does not end with a line feed
abbrev pub EndsReading : {W E : Type 0} → KnownLists → List Item → List (List ℕ) → Ending W E → Type 0
EndsReading known items texts end = ((are_cut items texts ≡ true) × IsSilent end)
    ⊎ ((are_cut items texts ≡ false) × EndsJoining known items texts end)

-- the lengths of the blocks in which lines are grouped, if `--group` is given
abbrev pub both : Option (ℕ × ℕ) → Option Lengths
both None = None
both (Some lengths) = Some (record { v4 = lengths.0; v6 = lengths.1 })

abbrev pub lengths_of : List Item → Option Lengths
lengths_of items = both (lengths_in (value_of items own.group))

-- how the run ends: lines are grouped in blocks of these lengths; or, without `--group`, a list was not read, and
-- nothing was written; or the lists were read, and the logs were joined to them
abbrev pub EndsGrouping : {W E : Type 0} → Option Lengths → KnownLists → List Item → Ending W E → Type 0
EndsGrouping (Some lengths) known items end = EndsAsked known items (answers.Blocks lengths) end
EndsGrouping None known items end = (NotRead known (lists_of items) × IsSilent end)
    ⊎ ((texts : List (List ℕ)) × AreRead known (lists_of items) texts × EndsReading known items texts end)

abbrev pub EndsFiles : {W E : Type 0} → KnownLists → List Item → Ending W E → Type 0
EndsFiles known items end = EndsGrouping (lengths_of items) known items end

-- `--zero` is given without `--tally`
abbrev pub lacks_tally : List Item → Bool
lacks_tally items = is_given items own.zeros && not (is_given items own.tally)

-- the run does what the items ask for; or, if `--zero` lacks `--tally` or memory ran out, it writes nothing, and its
-- exit status is 2
abbrev pub EndsRequest : {W E : Type 0} → KnownLists → List Item → Ending W E → Type 0
EndsRequest known items end = RunsOut end ⊎ (((lacks_tally items ≡ true) × IsSilent end)
    ⊎ ((lacks_tally items ≡ false) × EndsFiles known items end))

abbrev pub DoesRequest : {W E : Type 0} → KnownLists → Ending W E → List Item → Type 0
DoesRequest known end items = EndsRequest known items (record end { errors = end.errors_after })

-- how a run of a program with this name, help and version ends; its options are those of `IsOptions`
abbrev pub EndsAs : {Z W E : Type 0} → List ℕ → List ℕ → List ℕ → KnownLists → List (String Z) → Ending W E → Type 0
EndsAs program help version known words end = (table : Table) × IsOptions table
    × runs.EndsAs table program help version words (DoesRequest known end) end
