-- The laws of runs: what a caller may conclude from how a run ended.
use Rattle.std.specs.Prelude.{◌≡◌, ℕ, ◌<◌, ◌≤◌, List, ◌++◌, length, take, Option, Some, Ok, Err}
use Rattle.lines.specs.Beginnings.{complete_part}
use Rattle.lines.specs.declared.fault.RunFault.TheVariants.{Read, Write, InputTooLong}
use Rattle.cidr.specs.Output.{IsOutput}
use Rattle.cidr.specs.Run.{Ran, BeginsOutput}

-- Before the run, the input was `read` followed by `unread_after`. The writer held `written_before` before the run and
-- holds `written_after` after it.

-- after Ok, the input was within the limit, and an output for it was written
abbrev pub AfterOk : Type 0
AfterOk = (limit : ℕ) (input written_before written_after : List ℕ) (unread_after : Option (List ℕ)) (done : Unit {0})
    → Ran limit (Some input) unread_after (Some written_before) (Some written_after) (Ok done)
    → (length input ≤ limit) × (output : List ℕ) × IsOutput input output × (written_after ≡ written_before ++ output)

-- after a read fault, what was read is within the limit, and exactly the lines that it completes were answered
abbrev pub AfterReadFault : Type 0
AfterReadFault = (limit : ℕ) (read unread_after written_before written_after : List ℕ)
    → Ran limit (Some (read ++ unread_after)) (Some unread_after) (Some written_before) (Some written_after) (Err Read)
    → (length read ≤ limit) × (output : List ℕ) × IsOutput (complete_part read) output
    × (written_after ≡ written_before ++ output)

-- after a write fault, what was read is within the limit, and a beginning of an output for it was written
abbrev pub AfterWriteFault : Type 0
AfterWriteFault = (limit : ℕ) (read unread_after written_before written_after : List ℕ)
    → Ran limit (Some (read ++ unread_after)) (Some unread_after) (Some written_before) (Some written_after) (Err Write)
    → (length read ≤ limit) × (written : List ℕ) × BeginsOutput read written
    × (written_after ≡ written_before ++ written)

-- if the input is too long, more bytes than the limit were read, and there is a beginning of them, not longer than the
-- limit, such that exactly the lines that it completes were answered
abbrev pub AfterTooLong : Type 0
AfterTooLong = (limit : ℕ) (read unread_after written_before written_after : List ℕ)
    → Ran limit (Some (read ++ unread_after)) (Some unread_after) (Some written_before) (Some written_after)
    (Err InputTooLong)
    → (limit < length read) × (count : ℕ) × (count ≤ limit) × (output : List ℕ)
    × IsOutput (complete_part (take count read)) output
    × (written_after ≡ written_before ++ output)
