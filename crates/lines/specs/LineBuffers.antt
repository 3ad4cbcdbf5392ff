-- How contracts see a `LineBuffer`: the bytes that were read, and the lines of them that are returned.
use Rattle.std.specs.Prelude.{◌≡◌, ℕ, ◌+◌, ◌<◌, ◌≤◌, Bool, true, false, if◌then◌else◌, List, [], ◌∷◌, ◌++◌, length}
use Rattle.std.specs.Prelude.{take, drop, Option}
use Rattle.std.specs.Io.KnownBytes.{Consumes, IsAtEnd}
use Rattle.std.specs.Str.Lines.{lines}
use Rattle.byte_search.specs.Bytes.{IsAbsent}
use Rattle.lines.specs.LineEnds.{end_bytes}
use Rattle.lines.specs.declared.line_end.LineEnd.{LineEnd}
use Rattle.lines.specs.declared.line_end.LineEnd.TheVariants.{LineFeed, ReturnAndLineFeed, EndOfInput}
use Rattle.lines.specs.declared.line_buffer.NextLine.{NextLine}
use Rattle.lines.specs.declared.line_buffer.NextLine.TheVariants.{Line, TooLong, Ask, End}

-- a buffer, the bytes that wait in it, and the line that was returned last
pub record Buffered : Type 0 where
  -- the buffer, and the positions between which its bytes wait
  pub bytes : List ℕ
  pub start : ℕ
  pub end : ℕ
  -- the greatest number of bytes in a line
  pub limit : ℕ
  -- whether the first bytes of a line that is too long were dropped
  pub dropped : Bool
  -- whether the last read reached the end of the input
  pub ended : Bool
  -- the line that was returned last, without its line ending and with it
  pub line : List ℕ
  pub whole : List ℕ

-- the bytes that wait in the buffer
abbrev pub waits : Buffered → List ℕ
waits held = drop held.start (take held.end held.bytes)

-- none of the bytes is a line feed
abbrev pub HasNoFeed : List ℕ → Type 0
HasNoFeed bytes = IsAbsent 10 bytes 0 (length bytes)

-- the bytes that were dropped: none, or enough bytes without a line feed that their line is too long
abbrev pub IsDropped : Bool → ℕ → List ℕ → Type 0
IsDropped false limit bytes = bytes ≡ []
IsDropped true limit bytes = HasNoFeed bytes × (limit + 2 ≤ length bytes)

-- the bytes are pending, that is, they were read but not yet returned: the bytes that were dropped, followed by the
-- bytes that wait
pub record IsPending (held : Buffered) (pending : List ℕ) : Type 0 where
  pub gone : List ℕ
  pub dropped : IsDropped held.dropped held.limit gone
  pub bytes : pending ≡ gone ++ waits held

-- the line is the first line of the pending bytes, and `after` is what follows it and its line ending, whatever is read
-- later. Nothing follows a line that the end of the input ends
abbrev pub IsFirstLine : LineEnd → Bool → List ℕ → List ℕ → List ℕ → Type 0
IsFirstLine LineFeed ended pending line after = (rest : List ℕ) → lines (pending ++ rest) ≡ line ∷ lines (after ++ rest)
IsFirstLine ReturnAndLineFeed ended pending line after = (rest : List ℕ)
    → lines (pending ++ rest) ≡ line ∷ lines (after ++ rest)
IsFirstLine EndOfInput ended pending line after = (ended ≡ true) × (after ≡ []) × (lines pending ≡ line ∷ [])

-- the line was returned: it and its line ending were the first of the pending bytes, and those after them are still
-- pending
pub record HandsOut (held : Buffered) (pending line : List ℕ) (end : LineEnd) : Type 0 where
  pub after : List ℕ
  pub holds : IsPending held after
  pub bytes : pending ≡ line ++ end_bytes end ++ after
  pub first : IsFirstLine end held.ended pending line after

-- the lines `first`, followed by the lines of the pending bytes, are the lines of what was read, whatever is read later
abbrev pub AreFirst : Bool → List ℕ → List (List ℕ) → List ℕ → Type 0
AreFirst ended read first pending = (more : List ℕ) → (ended ≡ true → more ≡ [])
    → lines (read ++ more) ≡ first ++ lines (pending ++ more)

-- what each result of `next` says of the pending bytes
abbrev pub Gives : Buffered → List ℕ → NextLine → Type 0
-- a line within the limit, which the buffer lends
Gives new pending (Line end) = HandsOut new pending new.line end × (length new.line ≤ new.limit)
    × (new.whole ≡ new.line ++ end_bytes end)
-- a line that is longer than the limit
Gives new pending TooLong = (line : List ℕ) × (end : LineEnd) × HandsOut new pending line end
    × (new.limit < length line)
-- nothing, because no line is complete yet
Gives new pending Ask = IsPending new pending × HasNoFeed pending × HasNoFeed (waits new) × (new.ended ≡ false)
-- nothing, because all lines were returned
Gives new pending End = (pending ≡ []) × IsPending new [] × (new.ended ≡ true)

-- a measure of what is left to return
abbrev pub work : Buffered → ℕ
work held = length (waits held) + (if held.dropped then 1 else 0)

-- the measure is smaller after a line is returned
abbrev pub IsLess : Buffered → Buffered → NextLine → Type 0
IsLess old new (Line end) = work new < work old
IsLess old new TooLong = work new < work old
IsLess old new Ask = Unit {0}
IsLess old new End = Unit {0}

-- a read returned this many bytes, which are now pending after those that were pending before. It returned none only at
-- the end of the input
pub record Receives (unread_before unread_after : Option (List ℕ)) (old new : Buffered) (count : ℕ) : Type 0 where
  pub chunk : List ℕ
  pub counted : length chunk ≡ count
  pub consumed : Consumes unread_before unread_after chunk
  pub holds : (pending : List ℕ) → IsPending old pending → IsPending new (pending ++ chunk)
  pub at_end : count ≡ 0 → IsAtEnd unread_after

-- afterwards, the bytes that wait are at the front of the buffer. If they were at the front before, with room after
-- them, they are not moved. A byte is therefore moved at most once: the bytes after a line that was returned came
-- with the last read
abbrev pub Settles : Buffered → Buffered → Type 0
Settles old new = (new.start ≡ 0) × (old.start ≡ 0 → old.end < length old.bytes
    → take old.end new.bytes ≡ take old.end old.bytes)
