-- Places among the FILEs of a command line.
use Rattle.std.specs.Prelude.{ℕ, ◌≤◌, ◌+◌}
use Rattle.cidr_merge.specs.declared.command_line.Command.{Command}
use Rattle.cidr_merge.specs.declared.command_line.Command.TheVariants as commands

-- a command asks for at most `count` names before those of the second side
abbrev pub IsCommandWithin : ℕ → Command → Type 0
IsCommandWithin count (commands.Merge request) = request.middle ≤ count
IsCommandWithin count (commands.Split request) = Unit {0}
IsCommandWithin count (commands.Reduce request) = Unit {0}
IsCommandWithin count (commands.Inspect inspection rules) = Unit {0}
IsCommandWithin count (commands.Find middle from rules) = middle + from ≤ count
IsCommandWithin count (commands.Free request) = request.merge.middle ≤ count
