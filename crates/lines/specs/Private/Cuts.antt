-- Where the first line of some bytes ends, and the positions in a `LineBuffer`.
use Rattle.std.specs.Prelude.{◌≡◌, ℕ, ◌≤◌, List, [], ◌∷◌, ◌++◌, take}
use Rattle.std.specs.Str.Lines.{strip_carriage_return}
use Rattle.byte_search.specs.Bytes.{IsNext}
use Rattle.lines.specs.LineEnds.{end_bytes}
use Rattle.lines.specs.declared.line_end.Cut.{Cut}
use Rattle.lines.specs.declared.line_end.LineEnd.{LineEnd}
use Rattle.lines.specs.declared.line_end.LineEnd.TheVariants.{LineFeed, ReturnAndLineFeed, EndOfInput}

-- the line ending includes a line feed
abbrev pub HasFeed : LineEnd → Type 0
HasFeed LineFeed = Unit {0}
HasFeed ReturnAndLineFeed = Unit {0}
HasFeed EndOfInput = ⊥

-- the first line of the waiting bytes ends at the cut
pub record IsCut (waiting : List ℕ) (cut : Cut) : Type 0 where
  pub feed : IsNext 10 waiting 0 cut.before
  pub within : cut.content ≤ cut.before
  pub content : take cut.content waiting ≡ strip_carriage_return (take cut.before waiting)
  pub bytes : take cut.before waiting ++ 10 ∷ [] ≡ strip_carriage_return (take cut.before waiting) ++ end_bytes cut.end
  pub has_feed : HasFeed cut.end

-- the positions in a buffer of this size: of the line that was returned last, and of the bytes that wait
pub record IsOrdered (line_start line_end start searched end size : ℕ) : Type 0 where
  pub before : line_start ≤ start
  pub of_line : line_start ≤ line_end
  pub line_within : line_end ≤ size
  pub behind : start ≤ searched
  pub up_to : searched ≤ end
  pub within : end ≤ size
