-- The position of the next address or network of a line.
use Rattle.std.specs.Prelude.{◌≡◌, ℕ, ◌<◌, ◌≤◌, not, true, List, ◌∷◌, drop, length, slice_index}
use Rattle.std.specs.List.{slice_range}
use Rattle.line_addresses.specs.Addresses.{Spelled}
use Rattle.line_addresses.specs.LineRuns.{is_run_byte}
use Rattle.line_addresses.specs.declared.found.Found.{Found}

-- the address that was found, with its text
abbrev pub spelled_at : List ℕ → Found → Spelled
spelled_at line found = record { text = slice_range line found.start found.end; address = found.address }

-- `found` is the first item of the line from index `from` on; the items after it are those of the line from `next` on
pub record IsNextOf (all : List ℕ → List Spelled) (line : List ℕ) (from : ℕ) (found : Found) : Type 0 where
  pub behind : from ≤ found.start
  pub text : found.start ≤ found.end
  pub before_next : found.end ≤ found.next
  pub further : from < found.next
  pub within : found.next ≤ length line
  pub first : all (drop from line) ≡ spelled_at line found ∷ all (drop found.next line)

-- the line ends at `next`, or the byte there is not a run byte
abbrev pub StopsARun : List ℕ → Found → Type 0
StopsARun line found = found.next < length line → not (is_run_byte (slice_index line found.next)) ≡ true
