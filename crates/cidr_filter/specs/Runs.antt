-- How a run ends: its exit status, and what was written.
use Rattle.std.specs.Prelude.{◌≡◌, ℕ, min, List, [], Bool, true, false, not, ◌&&◌, ◌||◌, ◌⊎◌, Option, None, Some}
use Rattle.std.specs.Prelude.{if◌then◌else◌, length, nat_lt, codes, String}
use Rattle.lists.specs.Lists.{ReadLists, nothing_read}
use Rattle.lists.specs.Refusals.{Refused, no_refusals}
use Rattle.lists.specs.declared.named.ReadFault.{ReadFault}
use Rattle.lists.specs.KnownLists.{KnownLists}
use Rattle.lines.specs.Outputs.{Written}
use Rattle.program.specs.Endings.{Ending, IsSilent}
use Rattle.program.specs.Messages.{Reports}
use Rattle.program.specs.Reported.{was_refused}
use Rattle.log_programs.specs.Areas.{area_of}
use Rattle.log_programs.specs.Rows as rows
use Rattle.log_programs.specs.WithoutAddress.{bad_in}
use Rattle.options.specs.Given.{is_given, value_of, inputs_of}
use Rattle.options.specs.Runs as runs
use Rattle.options.specs.Values.{number_in}
use Rattle.options.specs.declared.items.Item.{Item}
use Rattle.options.specs.declared.table.Table.{Table}
use Rattle.cidr_filter.specs.Logs.{FiltersLogs}
use Rattle.cidr_filter.specs.Reading.{IsReadOf, StopsAtItems, HoldsRead, question_of, rules_of}
use Rattle.cidr_filter.specs.Options as own
use Rattle.cidr_filter.specs.Options.{IsOptions}
use Rattle.cidr_filter.specs.declared.filter.Family.{Family}
use Rattle.cidr_filter.specs.declared.filter.Family.TheVariants as families
use Rattle.cidr_filter.specs.declared.filter.Filter.{Filter}
use Rattle.cidr_filter.specs.declared.filter.OutputMode.{OutputMode}
use Rattle.cidr_filter.specs.declared.filter.OutputMode.TheVariants as shows
use Rattle.cidr_filter.specs.declared.matcher.Matcher.{Matcher}

-- the family whose addresses count: one with `-4` or `-6`, else either
abbrev pub family_of : List Item → Family
family_of items = if is_given items own.only_v4 then families.V4
    else if is_given items own.only_v6 then families.V6 else families.Either

-- how many lines of a log may be selected: with `-q` or `-l`, at most one
abbrev pub up_to_one : Option ℕ → Option ℕ
up_to_one None = Some 1
up_to_one (Some most) = Some (min most 1)

abbrev pub most_of : List Item → Option ℕ
most_of items =
    if is_given items own.quiet || is_given items own.names then up_to_one (number_in (value_of items own.most))
    else number_in (value_of items own.most)

-- what is printed: decided by the first of `-q`, `-l`, `-c` and `-o` that is given
abbrev pub shows_of : List Item → OutputMode
shows_of items =
    if is_given items own.quiet then shows.Nothing
    else if is_given items own.names then shows.Names
    else if is_given items own.counts then shows.Count
    else if is_given items own.only then shows.Addresses
    else shows.Lines

-- the name of the log is printed before a line, or, if there are several logs and not `-h`, before the number of its
-- lines
abbrev pub is_named : List Item → Bool
is_named items = is_given items own.named || (is_given items own.names
    || is_given items own.counts && nat_lt 1 (length (inputs_of items)) && not (is_given items own.unnamed))

-- the filter that is asked for
abbrev pub filter_of : List Item → Matcher → Filter
filter_of items listed = record {
  listed = listed;
  area = area_of items;
  mapped = is_given items rows.mapped;
  family = family_of items;
  inverts = is_given items own.inverts;
  bad = bad_in (value_of items own.bad);
  most = most_of items;
  shows = shows_of items;
  named = is_named items;
  numbered = is_given items own.numbered;
  nul = is_given items own.nul;
  name = [];
}

-- refused lines of lists end the run: if there is one, unless `--skip-bad` is given
abbrev pub is_stopped_by : List Item → Refused → Bool
is_stopped_by items refused = was_refused refused && not (is_given items own.skips_bad)

-- why no log is filtered: a refused line of a list ends the run, or a list was not read to its end
abbrev pub StopsAtLists : KnownLists → List Item → Type 0
StopsAtLists known items =
    ((read : ReadLists) × IsReadOf known items read × (is_stopped_by items read.refused ≡ true))
    ⊎ ((fault : ReadFault) × (refused : Refused)
    × StopsAtItems known 0 items (nothing_read (rules_of items) no_refusals) fault refused)

-- what was reported last is that memory ran out, of which nothing else can be known
abbrev pub TellsMemory : {W E : Type 0} → Ending W E → Type 0
TellsMemory {E = E} end = (told : Written E) × Reports told end.errors_after (codes "cidr_filter: out of memory\n")

-- the lists were read, no refused line ends the run, and the logs were filtered; or nothing was written, the exit
-- status is 2, and the lists or the memory are the cause
abbrev pub EndsRequest : {W E : Type 0} → KnownLists → List Item → Ending W E → Type 0
EndsRequest known items end =
    ((read : ReadLists) × IsReadOf known items read × (is_stopped_by items read.refused ≡ false)
    × (listed : Matcher) × HoldsRead (question_of items) read listed
    × FiltersLogs (filter_of items listed) known (inputs_of items) end.output end.output_after end.status)
    ⊎ (IsSilent end × (StopsAtLists known items ⊎ TellsMemory end))

abbrev pub DoesRequest : {W E : Type 0} → KnownLists → Ending W E → List Item → Type 0
DoesRequest known end items = EndsRequest known items end

-- how a run of a program with this name, help and version ends; its options are those of `IsOptions`
abbrev pub EndsAs : {Z W E : Type 0} → List ℕ → List ℕ → List ℕ → KnownLists → List (String Z) → Ending W E → Type 0
EndsAs program help version known words end =
    (table : Table) × IsOptions table × runs.EndsAs table program help version words (DoesRequest known end) end
