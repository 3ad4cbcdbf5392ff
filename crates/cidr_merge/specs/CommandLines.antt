-- The command that the words of a command line ask for.
use Rattle.std.specs.Prelude.{ℕ, Bool, List, [], ◌∷◌, ◌++◌, Option, None, Some, Result, Ok, Err, length, map, drop}
use Rattle.std.specs.Prelude.{if◌then◌else◌, codes, String}
use Rattle.std.specs.String.{string_bytes}
use Rattle.program.specs.Words.{count}
use Rattle.options.specs.Given.{is_given}
use Rattle.options.specs.Items.{items_of}
use Rattle.options.specs.declared.faults.Fault.{Fault}
use Rattle.options.specs.declared.items.Item.{Item}
use Rattle.options.specs.declared.items.Mode.TheVariants as modes
use Rattle.options.specs.declared.table.Row.{Row}
use Rattle.options.specs.declared.table.Table.{Table}
use Rattle.cidr_merge.specs.Bounds.{bound_of, change_of}
use Rattle.cidr_merge.specs.NamedLists.{lists_of}
use Rattle.cidr_merge.specs.RightWords.{are_wrong, from_of}
use Rattle.cidr_merge.specs.Forms.{check_rules, form_of, rules_by, shape_of, length_of, most_of, at_least_of}
use Rattle.cidr_merge.specs.Options as own
use Rattle.cidr_merge.specs.SetNames.{Names, names_of}
use Rattle.cidr_merge.specs.Sides.{before_dashes, behind_dashes}
use Rattle.cidr_merge.specs.Tasks.{task_called}
use Rattle.cidr_merge.specs.declared.command_line.Asked.{Asked}
use Rattle.cidr_merge.specs.declared.command_line.Command.{Command}
use Rattle.cidr_merge.specs.declared.command_line.Command.TheVariants as commands
use Rattle.cidr_merge.specs.declared.command_line.Form.{Form}
use Rattle.cidr_merge.specs.declared.command_line.Form.TheVariants.{Blocks, Exported}
use Rattle.cidr_merge.specs.declared.command_line.FreeRequest.{FreeRequest}
use Rattle.cidr_merge.specs.declared.free_task.FreeTask.{FreeTask}
use Rattle.cidr_merge.specs.declared.free_task.FreeTask.TheVariants as free_tasks
use Rattle.cidr_merge.specs.declared.command_line.Inspection.{Inspection}
use Rattle.cidr_merge.specs.declared.command_line.Inspection.TheVariants as inspections
use Rattle.cidr_merge.specs.declared.command_line.Operation.{Operation}
use Rattle.cidr_merge.specs.declared.command_line.Operation.TheVariants as operations
use Rattle.cidr_merge.specs.declared.command_line.ReduceRequest.{ReduceRequest}
use Rattle.cidr_merge.specs.declared.command_line.Request.{Request}
use Rattle.cidr_merge.specs.declared.exports.Export.TheVariants.{Addresses}
use Rattle.cidr_merge.specs.declared.tasks.Task.{Task}
use Rattle.cidr_merge.specs.declared.tasks.Task.TheVariants as tasks

-- the merge that these options ask for; the first `middle` lists are those of the first side
abbrev pub request_of : Operation → Form → List Item → ℕ → Request
request_of operation usual items middle = record {
  operation = operation;
  form = form_of usual items;
  skips_bad = is_given items own.skip_bad;
  shape = shape_of items;
  allows_empty = is_given items own.allow_empty;
  at_least = at_least_of items;
  max_change = change_of items;
  middle = middle;
}

-- the reduction that these options ask for: with `--most`, of lists of one family
abbrev pub reduction_of : List Item → ℕ → ReduceRequest
reduction_of items middle = record {
  v4 = most_of items own.ipv4;
  v6 = most_of items own.ipv6;
  is_of_one = is_given items own.most;
  bound = bound_of items;
  merge = request_of operations.Union Blocks items middle;
}

-- what a `free` prints by these options
abbrev pub free_task_of : List Item → FreeTask
free_task_of items =
    if is_given items own.hosts then free_tasks.Places
    else if is_given items own.usage then free_tasks.Usage else free_tasks.Blocks

-- what of pools these options ask for; the pools and the used addresses are read as the sides of a `minus`
abbrev pub free_of : List Item → ℕ → FreeRequest
free_of items middle = record {
  task = free_task_of items;
  length = length_of items;
  all = is_given items own.all;
  merge = request_of operations.Minus Blocks items middle;
}

-- the inspection that a `check` makes, strict or not
abbrev pub inspection_of : Bool → Inspection
inspection_of strictly = if strictly then inspections.Strict else inspections.Check

-- the command for a task, its options and the number of names on the first side; `list` prints each address of a union
abbrev pub asked_for : Task → List Item → ℕ → Command
asked_for (tasks.Merge operation) items middle = commands.Merge (request_of operation Blocks items middle)
asked_for tasks.List items middle = commands.Merge (request_of operations.Union (Exported Addresses) items middle)
asked_for tasks.Split items middle = commands.Split
    (record {
      length = length_of items;
      skips_bad = is_given items own.skip_bad;
      shape = shape_of items;
      at_least = at_least_of items;
    })
asked_for tasks.Reduce items middle = commands.Reduce (reduction_of items middle)
asked_for tasks.Check items middle =
    commands.Inspect (inspection_of (is_given items own.strict)) (check_rules items)
asked_for tasks.Overlaps items middle = commands.Inspect inspections.Overlaps (rules_by items)
asked_for tasks.Find items middle = commands.Find middle (length (from_of tasks.Find items)) (rules_by items)
asked_for tasks.Free items middle = commands.Free (free_of items middle)

-- the items (options and FILEs) in the words before the first `--`, and in those after it
abbrev pub first_said : {Z : Type 0} → List Row → List (String Z) → List Item
first_said rows others = items_of rows modes.Free (before_dashes others)

abbrev pub second_said : {Z : Type 0} → List Row → List (String Z) → List Item
second_said rows others = items_of rows modes.Free (behind_dashes others)

-- the names of an export's sets, and the texts around each line, as the options before and after the `--` give them
abbrev pub sets_by : {Z : Type 0} → Table → List (String Z) → Names
sets_by table others = names_of (first_said table.rows.now others ++ second_said table.rows.now others)

-- the same, from all words after the program's name; the first of them names the task
abbrev pub sets_of : {Z : Type 0} → Table → List (String Z) → Names
sets_of table words = sets_by table (drop 1 words)

-- the command and its FILEs, unless the words are wrong
abbrev pub unless : Bool → Command → List (List ℕ) → Option (Command × List (List ℕ))
unless wrong command names = if wrong then None else Some (command, names)

-- the command of a task, from the number of its `--`, its items, the number of FILEs on the first side, and all FILEs
abbrev pub command_by : Table → Task → ℕ → List Item → ℕ → List (List ℕ) → Option (Command × List (List ℕ))
command_by table task dashes items middle names =
    unless (are_wrong table task dashes items middle names) (asked_for task items middle) names

-- the command of a task, from the words after the one that names it
abbrev pub command_for : {Z : Type 0} → Table → Task → List (String Z) → Option (Command × List (List ℕ))
command_for table task others =
    command_by table task (count (codes "--") others)
    (first_said table.rows.now others ++ second_said table.rows.now others)
    (length (lists_of (first_said table.rows.now others)))
    (lists_of (first_said table.rows.now others)
    ++ from_of task (first_said table.rows.now others ++ second_said table.rows.now others)
    ++ lists_of (second_said table.rows.now others))

abbrev pub command_if : {Z : Type 0} → Table → Option Task → List (String Z) → Option (Command × List (List ℕ))
command_if table None others = None
command_if table (Some task) others = command_for table task others

-- the command that the words after the program's name ask for, with its FILEs: those of the first side, the one of
-- `--from`, then those of the second side; or none, if the words are wrong
abbrev pub command_of : {Z : Type 0} → Table → List (String Z) → Option (Command × List (List ℕ))
command_of table [] = None
command_of table (name ∷ others) = command_if table (task_called (string_bytes name)) others

-- the result of the code's `command_of`, in the form of the definition above
abbrev pub told_of : Result Asked Fault → Option (Command × List (List ℕ))
told_of (Ok asked) = Some (asked.command, map string_bytes asked.names.items)
told_of (Err fault) = None
