-- Which words of a command line are right.
use Rattle.std.specs.Prelude.{ℕ, ◌+◌, ◌-◌, ◌==◌, ◌&&◌, ◌||◌, Bool, true, false, not, List, [], ◌∷◌}
use Rattle.std.specs.Prelude.{length, drop, nat_lt, if◌then◌else◌, codes, bytes_eq}
use Rattle.std.specs.List.{list_any, count_by}
use Rattle.std.specs.Option.{is_some}
use Rattle.options.specs.Faults.{pair_fault}
use Rattle.options.specs.Given.{is_given, value_of}
use Rattle.options.specs.declared.items.Item.{Item}
use Rattle.options.specs.declared.items.Item.TheVariants as says
use Rattle.options.specs.declared.table.Table.{Table}
use Rattle.cidr_merge.specs.Bounds.{bound_in}
use Rattle.cidr_merge.specs.Forms.{form_called, form_of, line_form_called, most_in, prefix_in}
use Rattle.cidr_merge.specs.Hosts.{are_hosts}
use Rattle.cidr_merge.specs.NamedLists.{file_name}
use Rattle.cidr_merge.specs.Options as own
use Rattle.cidr_merge.specs.Options.{taken}
use Rattle.cidr_merge.specs.SetNames.{is_limit, is_set_name}
use Rattle.cidr_merge.specs.Tasks.{is_two_sided}
use Rattle.cidr_merge.specs.declared.command_line.Form.{Form}
use Rattle.cidr_merge.specs.declared.command_line.Form.TheVariants.{Blocks, Counts, Exported}
use Rattle.cidr_merge.specs.declared.command_line.Operation.TheVariants as operations
use Rattle.cidr_merge.specs.declared.exports.Export.TheVariants.{Csv, Nft, Ipset, Json}
use Rattle.cidr_merge.specs.declared.tasks.Task.{Task}
use Rattle.cidr_merge.specs.declared.tasks.Task.TheVariants as tasks

-- ---- options

-- whether the task takes the option of a row
abbrev pub takes : Task → ℕ → Bool
takes task row = list_any (λ one. one == row) (taken task)

-- whether a text is a valid value of the option of a row
abbrev pub is_value : ℕ → List ℕ → Bool
is_value row text =
    if row == own.format then is_some (form_called text)
    else if row == own.prefix then is_some (prefix_in text)
    else if row == own.read then is_some (line_form_called text)
    else if ((row == own.most || row == own.ipv4) || row == own.ipv6) || row == own.at_least then is_some (most_in text)
    else if row == own.max_others || row == own.max_change then is_some (bound_in text)
    else if row == own.set || row == own.table then is_set_name text
    else if row == own.maxelem then is_limit text
    else if row == own.hosts then are_hosts text
    else if (row == own.from || row == own.text) || row == own.json_field then not (length text == 0)
    else true

-- whether an item is an option that the task does not take, or that has no value or a wrong one, or is no option
abbrev pub is_wrong : Task → Item → Bool
is_wrong task (says.Flag row) = not (takes task row)
is_wrong task (says.Value row text) = not (takes task row) || not (is_value row text)
is_wrong task (says.Joined row text word) = not (takes task row) || not (is_value row text)
is_wrong task (says.File name) = false
is_wrong task (says.Unknown word) = true
is_wrong task (says.Lacks row) = true

-- whether a number of networks is given
abbrev pub has_count : List Item → Bool
has_count items = (is_given items own.most || is_given items own.ipv4) || is_given items own.ipv6

-- whether it is given what a `free` prints
abbrev pub says_what : List Item → Bool
says_what items = (is_given items own.prefix || is_given items own.hosts) || is_given items own.usage

-- whether a `split` has no prefix length, a `free` nothing to print, or a `reduce` no number of networks
abbrev pub lacks_value : Task → List Item → Bool
lacks_value tasks.Split items = not (is_given items own.prefix)
lacks_value tasks.Free items = not (says_what items)
lacks_value tasks.Reduce items = not (has_count items)
lacks_value task items = false

-- the forms that other programs read, which cannot show the two sides of a `differ`
abbrev pub is_exported : Form → Bool
is_exported (Exported export) = true
is_exported form = false

abbrev pub cannot_print : Task → Form → Bool
cannot_print (tasks.Merge operations.Differ) form = is_exported form
cannot_print task form = false

-- whether a form has sets, and whether it has a table, which an option can name; and whether its sets have a limit
abbrev pub has_sets : Form → Bool
has_sets (Exported Nft) = true
has_sets (Exported Ipset) = true
has_sets form = false

abbrev pub has_table : Form → Bool
has_table (Exported Nft) = true
has_table form = false

abbrev pub has_limit : Form → Bool
has_limit (Exported Ipset) = true
has_limit form = false

-- whether a form has lines with a text before and after each
abbrev pub has_lines : Form → Bool
has_lines Counts = false
has_lines (Exported Csv) = false
has_lines (Exported Nft) = false
has_lines (Exported Ipset) = false
has_lines (Exported Json) = false
has_lines form = true

-- whether an option names a set or a table, gives a limit, or gives a text around lines, in a form that has none
abbrev pub are_misplaced : List Item → Form → Bool
are_misplaced items form =
    is_given items own.set && not (has_sets form) || (is_given items own.table && not (has_table form)
    || (is_given items own.maxelem && not (has_limit form) || (is_given items own.before && not (has_lines form)
    || is_given items own.after && not (has_lines form))))

-- whether options do not go together
abbrev pub do_clash : Table → Task → List Item → Bool
do_clash table task items =
    is_some (pair_fault items table.pairs.now) || (cannot_print task (form_of Blocks items)
    || (lacks_value task items || are_misplaced items (form_of Blocks items)))

-- ---- lists

-- whether the sides are wrong, from the number of `--` and of FILEs on each side. If the task has one side: a `--`, or
-- no FILE. If it has two: no `--`, more than one, or nothing before or after it
abbrev pub are_wrong_sides : Task → ℕ → ℕ → ℕ → Bool
are_wrong_sides task dashes first second =
    if not (is_two_sided task) then nat_lt 0 dashes || first == 0
    else dashes == 0 || (nat_lt 1 dashes || (first == 0 || second == 0))

-- how many names are this text
abbrev pub times_named : List ℕ → List (List ℕ) → ℕ
times_named text names = count_by (λ name. bytes_eq name text) names

-- whether a name of a list is empty, or standard input is named twice
abbrev pub are_wrong_files : List (List ℕ) → Bool
are_wrong_files files = nat_lt 0 (times_named [] files) || nat_lt 1 (times_named (codes "-") files)

-- the names of lists among all names: all of them, except that the words before the `--` of a `find` are addresses
abbrev pub files_among : {X : Type 0} → Task → ℕ → List X → List X
files_among tasks.Find middle names = drop middle names
files_among task middle names = names

-- the FILE of the `--from` of a `find`
abbrev pub from_of : Task → List Item → List (List ℕ)
from_of tasks.Find items = if is_given items own.from then file_name (value_of items own.from) ∷ [] else []
from_of task items = []

-- ---- all words

-- whether the words of a task are wrong: an option, options together, the sides, or the names of lists
abbrev pub are_wrong : Table → Task → ℕ → List Item → ℕ → List (List ℕ) → Bool
are_wrong table task dashes items middle names =
    ((list_any (is_wrong task) items || do_clash table task items)
    || are_wrong_sides task dashes (middle + length (from_of task items))
    (length names - middle - length (from_of task items))) || are_wrong_files (files_among task middle names)
