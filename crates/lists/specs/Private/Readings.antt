-- How the reading of a list ends.
use Rattle.std.specs.Prelude.{ℕ, Bool, Result, Ok, Err, if◌then◌else◌}
use Rattle.lists.specs.declared.named.ReadFault.{ReadFault}
use Rattle.lists.specs.declared.named.ReadFault.TheVariants.{Read, Cut, OutOfMemory}
use Rattle.lists.specs.declared.read.ListFault.{ListFault}
use Rattle.lists.specs.declared.read.ListFault.TheVariants as faults

-- the result of reading the list at this index: a fault of memory if that ran out (`out`), else a failed read if its
-- lines were not all taken, else that it is cut if it is refused for that, and else success
abbrev pub end_of : Result (Unit {0}) ListFault → ℕ → Bool → Result (Unit {0}) ReadFault
end_of (Ok done) place out = if out then Err OutOfMemory else Ok done
end_of (Err (faults.Run fault)) place out = if out then Err OutOfMemory else Err (Read place)
end_of (Err faults.Cut) place out = if out then Err OutOfMemory else Err (Cut place)
