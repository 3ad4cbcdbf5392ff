-- What contracts see of a `LogReader`.
use Rattle.std.specs.Prelude.{◌≡◌, ℕ, ◌+◌, ◌-◌, ◌*◌, ◌^◌, ◌<◌, ◌≤◌, Bool, true, false, IsTrue, if◌then◌else◌, List, []}
use Rattle.std.specs.Prelude.{◌∷◌, ◌++◌, length, Option}
use Rattle.std.specs.List.{list_all}
use Rattle.std.specs.Io.KnownBytes.{Consumes, IsAtEnd}
use Rattle.lines.specs.LineBuffers.{Buffered, IsPending, work}
use Rattle.lines.specs.Outputs.{Written, Prints, FailsIn}
use Rattle.lines.specs.declared.line_end.LineEnd.{LineEnd}
use Rattle.program.specs.LogLines.{LogLine, log_lines, ended_lines, content, printed, feed_behind, log_line, IsWhole}
use Rattle.program.specs.declared.log_fault.LogFault.{LogFault}
use Rattle.program.specs.declared.log_fault.LogFault.TheVariants as faults
use Rattle.program.specs.declared.log_reader.NextLogLine.{NextLogLine}
use Rattle.program.specs.declared.log_reader.NextLogLine.TheVariants.{Line, TooLong, End}

-- a log while it is read
pub record OpenLog : Type 0 where
  -- the bytes that were read and not yet returned, and the line that was returned last
  pub buffered : Buffered
  -- how many more bytes may be read
  pub room : ℕ
  -- a line that is too long is reported before its end was read
  pub hurries : Bool

-- the line that was returned last, without the bytes that end it
abbrev pub line_of : OpenLog → List ℕ
line_of reader = reader.buffered.line

-- the line that was returned last, with the bytes that end it
abbrev pub whole_of : OpenLog → List ℕ
whole_of reader = reader.buffered.whole

-- whatever is read after `read` (nothing, if the log has ended), its lines are `first` and then the lines of `pending`
-- and what comes after it
abbrev pub AreFirst : Bool → List ℕ → List LogLine → List ℕ → Type 0
AreFirst ended read first pending = (more : List ℕ) → (ended ≡ true → more ≡ [])
    → log_lines (read ++ more) ≡ first ++ log_lines (pending ++ more)

-- the reader has returned the lines `first`: they are the first lines of what was read, and what follows them is
-- pending in its buffer
pub record HandsFirst (reader : OpenLog) (remained remains : Option (List ℕ)) (first : List LogLine) : Type 0 where
  pub read : List ℕ
  pub reads : Consumes remained remains read
  pub counted : length read + reader.room ≡ 2 ^ 64 - 1
  pub limit : reader.buffered.limit ≡ 1048576
  pub at_end : reader.buffered.ended ≡ true → IsAtEnd remains
  pub pending : List ℕ
  pub holds : IsPending reader.buffered pending
  pub lines : AreFirst reader.buffered.ended read first pending
  pub ended : reader.buffered.ended ≡ false → list_all (λ line. line.is_ended) first ≡ true

-- the first lines of what was read are `first` and then `line`, which counts as a line whatever is read after it
pub record ComesNext (remained remains : Option (List ℕ)) (first : List LogLine) (line : LogLine) : Type 0 where
  pub read : List ℕ
  pub others : List LogLine
  pub reads : Consumes remained remains read
  pub lines : log_lines read ≡ first ++ line ∷ others
  pub is_line : IsWhole (IsAtEnd remains) line

-- after the lines `first`, the reader returned one within the limit, which its buffer lends as it was read
pub record GivesLine (new : OpenLog) (remained remains : Option (List ℕ)) (first : List LogLine)
    (end : LineEnd) : Type 0 where
  pub next : ComesNext remained remains first (log_line (line_of new) end)
  pub hands : HandsFirst new remained remains (first ++ log_line (line_of new) end ∷ [])
  pub is_content : content (log_line (line_of new) end) ≡ line_of new
  pub within : length (line_of new) ≤ 1048576
  pub is_printed : printed (log_line (line_of new) end) ≡ whole_of new ++ feed_behind end

-- after the lines `first` comes one that is too long, all of which was read unless the reader hurries
pub record GivesLong (new : OpenLog) (remained remains : Option (List ℕ)) (first : List LogLine) : Type 0 where
  pub line : LogLine
  pub next : ComesNext remained remains first line
  pub long : 1048576 < length (content line)
  pub hands : new.hurries ≡ false → HandsFirst new remained remains (first ++ line ∷ [])

-- what `next` returns after the lines `first`
abbrev pub GivesNext : OpenLog → Option (List ℕ) → Option (List ℕ) → List LogLine → NextLogLine → Type 0
-- it is a line within the limit
GivesNext new remained remains first (Line end) = GivesLine new remained remains first end
-- it is a line that is too long
GivesNext new remained remains first TooLong = GivesLong new remained remains first
-- it is no line: the log has ended, and `first` are all of its lines
GivesNext new remained remains first End = (read : List ℕ) × Consumes remained remains read × IsAtEnd remains
    × (log_lines read ≡ first)

-- what was read, and what was put into the output, if this fault stops the reading of a log after the lines `first`
-- were returned
abbrev pub Breaks : {W : Type 0} → Option (List ℕ) → Option (List ℕ) → Bool → Written W → Written W → List LogLine
    → LogFault → Type 0
-- a read failed, nothing was put into the output, and `first` are the lines of what was read that have their line feed
Breaks remained remains read_failed old new first faults.Read = IsTrue read_failed × Prints old new []
    × (read : List ℕ) × Consumes remained remains read × (ended_lines read ≡ first)
-- a write failed, and `first` are the first lines of what was read
Breaks remained remains read_failed old new first faults.Write = IsTrue new.failed × FailsIn old new []
    × (read : List ℕ) × (others : List LogLine) × Consumes remained remains read × (log_lines read ≡ first ++ others)
-- this fault does not occur: the reader does not look for addresses
Breaks remained remains read_failed old new first faults.Address = ⊥
-- this fault does not occur: the reader returns a line that is too long as such
Breaks remained remains read_failed old new first faults.Length = ⊥
-- more bytes were read than 64 bits count, and `first` are the lines whose line feed is among the bytes before the last
-- ones (`last`)
Breaks remained remains read_failed old new first faults.Endless = Prints old new []
    × (read : List ℕ) × (last : List ℕ) × Consumes remained remains (read ++ last)
    × (2 ^ 64 - 1 < length (read ++ last)) × (ended_lines read ≡ first)

-- a measure of what is left to read and to return: the bytes that may still be read, and the end of the log, each
-- count for more than all lines that the buffer can hold
abbrev pub left : OpenLog → ℕ
left reader = (reader.room + (if reader.buffered.ended then 0 else 1)) * (length reader.buffered.bytes + 2) + work
    reader.buffered

-- less is left after a line than before, unless the line is too long and the reader hurries
abbrev pub IsLess : OpenLog → OpenLog → NextLogLine → Type 0
IsLess old new (Line end) = left new < left old
IsLess old new TooLong = old.hurries ≡ false → left new < left old
IsLess old new End = Unit {0}
