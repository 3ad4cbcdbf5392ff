-- Logs that are read one after another.
use Rattle.std.specs.Prelude.{◌≡◌, ℕ, true, List, Some}
use Rattle.lines.specs.Beginnings.{IsBeginning}
use Rattle.lists.specs.KnownLists.{KnownLists}
use Rattle.program.specs.declared.log_fault.LogFault.{LogFault}
use Rattle.program.specs.declared.log_fault.LogFault.TheVariants as faults

-- the file of this name was opened, and, if its bytes are known, these are all of them
abbrev pub IsAllOf : KnownLists → List ℕ → List ℕ → Type 0
IsAllOf known name read = known.may_open name true
    × ((input : List ℕ) → known.bytes_of name ≡ Some input → read ≡ input)

-- if the bytes of the file of this name are known, these are the first of them
abbrev pub IsFirstOf : KnownLists → List ℕ → List ℕ → Type 0
IsFirstOf known name read = (input : List ℕ) → known.bytes_of name ≡ Some input → IsBeginning read input
