-- How a run of the program ends, by its words.
use Rattle.std.specs.Prelude.{◌≡◌, ℕ, List, ◌⊎◌, Option, None, Some, map, String, codes}
use Rattle.std.specs.String.{string_bytes}
use Rattle.std.specs.declared.alloc.Global.{Global}
use Rattle.lines.specs.Outputs.{Written}
use Rattle.lists.specs.KnownLists.{KnownLists}
use Rattle.options.specs.declared.table.Table.{Table}
use Rattle.program.specs.Endings.{Ending, IsSilent}
use Rattle.program.specs.Messages.{Reports}
use Rattle.program.specs.Runs.{EndsRun}
use Rattle.cidr_merge.specs.CommandLines.{command_of, sets_of}
use Rattle.cidr_merge.specs.FindRuns.{EndsFind}
use Rattle.cidr_merge.specs.FreeRuns.{EndsFree}
use Rattle.cidr_merge.specs.InspectionRuns.{EndsInspecting}
use Rattle.cidr_merge.specs.Options.{IsOptions}
use Rattle.cidr_merge.specs.Reductions.{EndsReducing}
use Rattle.cidr_merge.specs.Runs.{EndsMerging}
use Rattle.cidr_merge.specs.SetNames.{Names}
use Rattle.cidr_merge.specs.Spelling.{spelled_out}
use Rattle.cidr_merge.specs.Splits.{EndsSplitting}
use Rattle.cidr_merge.specs.Texts.{whole}
use Rattle.cidr_merge.specs.Writing.{EndsSilently}
use Rattle.cidr_merge.specs.declared.command_line.Command.{Command}
use Rattle.cidr_merge.specs.declared.command_line.Command.TheVariants as commands

-- the command was run with the FILEs of these names, and with these names of sets and texts around each line
abbrev pub EndsCommand : {Z W : Type 0} → KnownLists → List (String Z) → Names → Command → Written W → Written W → ℕ
    → Type 0
EndsCommand known words sets (commands.Merge request) old new status =
    EndsMerging known words sets request old new status
EndsCommand known words sets (commands.Split request) old new status =
    EndsSplitting known words sets request old new status
EndsCommand known words sets (commands.Reduce request) old new status =
    EndsReducing known words sets request old new status
EndsCommand known words sets (commands.Inspect inspection rules) old new status =
    EndsInspecting (whole known rules.is_whole) rules words inspection old new status
EndsCommand known words sets (commands.Find middle from rules) old new status =
    EndsFind (whole known rules.is_whole) rules words middle from old new status
EndsCommand known words sets (commands.Free request) old new status =
    EndsFree known words sets request old new status

-- the words name a command, which was run, or are wrong, and nothing was written
abbrev pub EndsAsked : {W : Type 0} → KnownLists → Names → Option (Command × List (List ℕ)) → Written W → Written W → ℕ
    → Type 0
EndsAsked known sets None old new status = EndsSilently old new status
EndsAsked known sets (Some asked) old new status = (names : List (String Global))
    × (map string_bytes names ≡ asked.1) × EndsCommand known names sets asked.0 old new status

-- nothing was written, the exit status is 2, and what was reported last is that memory ran out, of which nothing else
-- can be known
abbrev pub LacksMemory : {W E : Type 0} → Ending W E → Type 0
LacksMemory {E = E} end = IsSilent end
    × ((told : Written E) × Reports told end.errors_after (codes "cidr_merge: out of memory\n"))

-- memory ran out, or the words were read by the table of the options
abbrev pub EndsBy : {Z W E : Type 0} → KnownLists → List (String Z) → Ending W E → Type 0
EndsBy known words end = LacksMemory end
    ⊎ ((table : Table) × IsOptions table
    × EndsAsked known (sets_of table words) (command_of table words) end.output end.output_after end.status)

-- how a run of a program with this help and version ends: it prints the help or the version if the words ask for
-- it; otherwise it spells the words out and reads them, or memory ran out
abbrev pub EndsAs : {Z W E : Type 0} → List ℕ → List ℕ → KnownLists → List (String Z) → Ending W E → Type 0
EndsAs help version known words end = EndsRun help version words
    (LacksMemory end
    ⊎ ((spelled : List (String Global)) × (map string_bytes spelled ≡ spelled_out (map string_bytes words))
    × EndsBy known spelled end)) end
