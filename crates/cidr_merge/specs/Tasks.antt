-- The tasks.
use Rattle.std.specs.Prelude.{ℕ, Bool, true, false, List, Option, None, Some, if◌then◌else◌, codes, bytes_eq}
use Rattle.cidr_merge.specs.declared.command_line.Operation.TheVariants as operations
use Rattle.cidr_merge.specs.declared.tasks.Task.{Task}
use Rattle.cidr_merge.specs.declared.tasks.Task.TheVariants as tasks

-- the task that a word names
abbrev pub task_called : List ℕ → Option Task
task_called text =
    if bytes_eq text (codes "union") then Some (tasks.Merge operations.Union)
    else if bytes_eq text (codes "common") then Some (tasks.Merge operations.Common)
    else if bytes_eq text (codes "minus") then Some (tasks.Merge operations.Minus)
    else if bytes_eq text (codes "differ") then Some (tasks.Merge operations.Differ)
    else if bytes_eq text (codes "list") then Some tasks.List
    else if bytes_eq text (codes "split") then Some tasks.Split
    else if bytes_eq text (codes "reduce") then Some tasks.Reduce
    else if bytes_eq text (codes "check") then Some tasks.Check
    else if bytes_eq text (codes "overlaps") then Some tasks.Overlaps
    else if bytes_eq text (codes "find") then Some tasks.Find
    else if bytes_eq text (codes "free") then Some tasks.Free
    else None

-- whether a task has two sides, with a `--` between them
abbrev pub is_two_sided : Task → Bool
is_two_sided (tasks.Merge operations.Union) = false
is_two_sided (tasks.Merge operation) = true
is_two_sided tasks.Find = true
is_two_sided tasks.Free = true
is_two_sided task = false
