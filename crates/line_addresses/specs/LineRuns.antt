-- The runs of a line, each of which may contain an address.
use Rattle.std.specs.Prelude.{ℕ, ◌==◌, ◌||◌, Bool, not, List}
use Rattle.std.specs.Char.{is_ascii_alphanumeric}
use Rattle.std.specs.List.{slice_split}

-- an ASCII letter or digit, `.`, `:` or `_`
abbrev pub is_run_byte : ℕ → Bool
is_run_byte byte = is_ascii_alphanumeric byte || byte == 46 || byte == 58 || byte == 95

-- the maximal runs of such bytes: the line is split at every other byte. A run between two adjacent ones is empty
abbrev pub runs_of : List ℕ → List (List ℕ)
runs_of line = slice_split (λ byte. not (is_run_byte byte)) line
