-- The lines of a log.
use Rattle.std.specs.Prelude.{◌≡◌, ◌<◌, ◌⊎◌, ℕ, Bool, true, false, List, [], ◌∷◌, ◌++◌, length, ◌==◌, if◌then◌else◌}
use Rattle.std.specs.Prelude.{filter}
use Rattle.std.specs.List.{slice_split}
use Rattle.std.specs.Str.Lines.{strip_carriage_return}
use Rattle.lines.specs.declared.line_end.LineEnd.{LineEnd}
use Rattle.lines.specs.declared.line_end.LineEnd.TheVariants.{LineFeed, ReturnAndLineFeed, EndOfInput}

-- a line of a log: the bytes before its line feed, and whether it has one
pub record LogLine : Type 0 where
  pub bytes : List ℕ
  pub is_ended : Bool

-- the lines in the parts between line feeds: every part but the last has its line feed, and an empty last part is no
-- line
abbrev pub lines_in : List (List ℕ) → List LogLine
lines_in [] = []
lines_in (part ∷ []) = if length part == 0 then [] else record { bytes = part; is_ended = false } ∷ []
lines_in (part ∷ next ∷ parts) = record { bytes = part; is_ended = true } ∷ lines_in (next ∷ parts)

-- the lines of a log, which line feeds (byte 10) end
abbrev pub log_lines : List ℕ → List LogLine
log_lines log = lines_in (slice_split (λ b. b == 10) log)

-- the lines of a log that have their line feed
abbrev pub ended_lines : List ℕ → List LogLine
ended_lines log = filter (λ line. line.is_ended) (log_lines log)

-- a line without its end, which is a line feed, or a carriage return and a line feed
abbrev pub content : LogLine → List ℕ
content line = if line.is_ended then strip_carriage_return line.bytes else line.bytes

-- this counts as a line, whatever is read after it: it has its line feed, or the log ends with it (`ends`), or it is
-- too long whatever its end is
abbrev pub IsWhole : Type 0 → LogLine → Type 0
IsWhole ends line = (line.is_ended ≡ true) ⊎ (ends ⊎ (1048577 < length line.bytes))

-- a line as it is printed: its bytes and a line feed (byte 10), even if it had none
abbrev pub printed : LogLine → List ℕ
printed line = line.bytes ++ 10 ∷ []

-- what is written after a line as it was read: a line feed (byte 10) if the line had none, and else nothing
abbrev pub feed_behind : LineEnd → List ℕ
feed_behind LineFeed = []
feed_behind ReturnAndLineFeed = []
feed_behind EndOfInput = 10 ∷ []

-- a line of these bytes that has its line feed
abbrev pub ended : List ℕ → LogLine
ended bytes = record { bytes = bytes; is_ended = true }

-- a line of these bytes that has no line feed
abbrev pub unended : List ℕ → LogLine
unended bytes = record { bytes = bytes; is_ended = false }

-- the line of a log that has these bytes before this end
abbrev pub log_line : List ℕ → LineEnd → LogLine
log_line line LineFeed = ended line
log_line line ReturnAndLineFeed = ended (line ++ 13 ∷ [])
log_line line EndOfInput = unended line
