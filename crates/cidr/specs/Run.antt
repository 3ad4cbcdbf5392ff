-- How a run ends.
use Rattle.std.specs.Prelude.{◌≡◌, ℕ, ◌<◌, ◌≤◌, ◌||◌, IsTrue, IsFalse, List, length, Option, Some, IfSome, Result, Ok}
use Rattle.std.specs.Prelude.{Err, OnOk, IsOk}
use Rattle.std.specs.Io.KnownBytes.{Appends, Consumes, IsAtEnd}
use Rattle.lines.specs.Faults.{ended_by_read, ended_by_write}
use Rattle.lines.specs.Beginnings.{complete_part, IsBeginning}
use Rattle.lines.specs.Watched.{device_of, has_failed}
use Rattle.lines.specs.declared.fault.RunFault.{RunFault}
use Rattle.lines.specs.declared.fault.RunFault.TheVariants.{Read, Write, InputTooLong}
use Rattle.lines.specs.declared.watched.Watched.{Watched}
use Rattle.cidr.specs.Output.{IsOutput}

-- a beginning of an output for what was read
abbrev pub BeginsOutput : List ℕ → List ℕ → Type 0
BeginsOutput read written = (output : List ℕ) × IsOutput read output × IsBeginning written output

-- an output for exactly the lines that some beginning of what was read, not longer than the limit, completes
abbrev pub AnswersPart : ℕ → List ℕ → List ℕ → Type 0
AnswersPart limit read written = (front : List ℕ) × IsBeginning front read × (length front ≤ limit)
    × IsOutput (complete_part front) written

-- what a run may have read and written, for each way it can end. `unread_after` is what the reader has left
abbrev pub EndsAs : ℕ → Option (List ℕ) → Result (Unit {0}) RunFault → List ℕ → List ℕ → Type 0
-- the whole input was read, and an output for it was written
EndsAs limit unread_after (Ok done) read written = IsAtEnd unread_after × (length read ≤ limit) × IsOutput read written
-- an output for exactly the lines whose line feed was read
EndsAs limit unread_after (Err Read) read written = (length read ≤ limit) × IsOutput (complete_part read) written
-- an output for exactly the lines that some beginning of what was read, not longer than the limit, completes
EndsAs limit unread_after (Err InputTooLong) read written = (limit < length read) × AnswersPart limit read written
-- a beginning of an output for what was read
EndsAs limit unread_after (Err Write) read written = (length read ≤ limit) × BeginsOutput read written

-- what a run did, if the contracts of the reader and the writer give their contents
pub record Ran (limit : ℕ) (unread_before unread_after written_before written_after : Option (List ℕ))
    (result : Result (Unit {0}) RunFault) : Type 0 where
  -- the bytes that were read
  pub read : List ℕ
  -- the bytes that were written
  pub written : List ℕ
  -- the reader returned the bytes that were read
  pub reads : Consumes unread_before unread_after read
  -- the writer took the bytes that were written
  pub writes : Appends written_before written_after written
  -- which part of the input and of its output these are
  pub ends : EndsAs limit unread_after result read written

-- what a run promises, for this limit and the reader and the writer before and after it. `remaining` is what a reader
-- has left, and `contents` what a writer holds, if their contracts give it
pub record IsRun {R W : Type 0} (remaining : R → Option (List ℕ)) (contents : W → Option (List ℕ)) (limit : ℕ)
    (reader_before reader_after : Watched R) (writer_before writer_after : Watched W)
    (result : Result (Unit {0}) RunFault) : Type 0 where
  -- what was read and written, depending on how the run ended
  pub ran : Ran limit (remaining (device_of reader_before)) (remaining (device_of reader_after))
      (contents (device_of writer_before)) (contents (device_of writer_after)) result
  -- a device has failed exactly if it had failed before the run or its failure ended the run
  pub reader_failed : has_failed reader_after ≡ (has_failed reader_before || ended_by_read result)
  pub writer_failed : has_failed writer_after ≡ (has_failed writer_before || ended_by_write result)
  -- if the reader had failed before, the result is `Read`; otherwise, if the writer had, it is `Write`. In both cases
  -- neither is called
  pub reader_first : IsTrue (has_failed reader_before) → result ≡ Err Read
  pub writer_next : IsFalse (has_failed reader_before) → IsTrue (has_failed writer_before) → result ≡ Err Write
  pub uncalled : IsTrue (has_failed reader_before || has_failed writer_before)
      → (device_of reader_after ≡ device_of reader_before) × (device_of writer_after ≡ device_of writer_before)
  -- after `Ok`, an output for the whole input was written; and the result is `Ok` if the input is within the limit and
  -- no device fails
  pub output : OnOk result (IfSome (remaining (device_of reader_before)) (λ input. (output : List ℕ)
      × IsOutput input output × Appends (contents (device_of writer_before))
      (contents (device_of writer_after)) output))
  pub succeeds : (input : List ℕ) → remaining (device_of reader_before) ≡ Some input → length input ≤ limit
      → IsFalse (has_failed reader_after) → IsFalse (has_failed writer_after) → IsOk result
