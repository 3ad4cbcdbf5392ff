-- Why a log was not read to its end, and what is written then.
use Rattle.std.specs.Prelude.{◌≡◌, ◌⊎◌, ℕ, Bool, true, false, IsTrue, List, []}
use Rattle.std.specs.Prelude.{Result, Err}
use Rattle.lines.specs.Outputs.{Written, Writes, FailsIn}
use Rattle.program.specs.declared.log_fault.LogFault.{LogFault}
use Rattle.program.specs.declared.log_fault.LogFault.TheVariants as faults

-- the result is the fault of a failed read
abbrev pub ended_by_read : {T : Type 0} → Result T LogFault → Bool
ended_by_read (Err faults.Read) = true
ended_by_read _ = false

-- the result is the fault of a failed write
abbrev pub ended_by_write : {T : Type 0} → Result T LogFault → Bool
ended_by_write (Err faults.Write) = true
ended_by_write _ = false

-- the text was written; or the writer failed, and took a beginning of what waited and of the text
abbrev pub Wrote : {W : Type 0} → Written W → Written W → List ℕ → Type 0
Wrote old new text = Writes old new text ⊎ (IsTrue new.failed × FailsIn old new text)

-- after a failed write nothing more was written, and after any other fault what waited was
abbrev pub StopsBy : {W : Type 0} → LogFault → Written W → Written W → Type 0
StopsBy faults.Write old new = new ≡ old
StopsBy _ old new = Wrote old new []
