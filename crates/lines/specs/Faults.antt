-- The faults of a run: their texts, and the devices at which they occur.
use Rattle.std.specs.Prelude.{ℕ, Bool, true, false, List, codes, Result, Ok, Err}
use Rattle.lines.specs.declared.fault.RunFault.{RunFault}
use Rattle.lines.specs.declared.fault.RunFault.TheVariants.{Read, Write, InputTooLong}

-- the text of each fault
abbrev pub run_fault_text : RunFault → List ℕ
run_fault_text Read = codes "read error"
run_fault_text Write = codes "write error"
run_fault_text InputTooLong = codes "input too long"

-- whether a failed read ended the run
abbrev pub ended_by_read : Result (Unit {0}) RunFault → Bool
-- no: the run finished
ended_by_read (Ok done) = false
-- yes: a read failed
ended_by_read (Err Read) = true
-- no: a write or the flush failed
ended_by_read (Err Write) = false
-- no: the input passed the limit
ended_by_read (Err InputTooLong) = false

-- whether a failed write or flush ended the run
abbrev pub ended_by_write : Result (Unit {0}) RunFault → Bool
-- no: the run finished
ended_by_write (Ok done) = false
-- no: a read failed
ended_by_write (Err Read) = false
-- yes: a write or the flush failed
ended_by_write (Err Write) = true
-- no: the input passed the limit
ended_by_write (Err InputTooLong) = false
