-- The words of a command line with `reduce N` spelled out.
use Rattle.std.specs.Prelude.{ℕ, ◌&&◌, Bool, false, List, ◌∷◌, bytes_eq, codes, if◌then◌else◌, take, drop, ◌++◌}
use Rattle.std.specs.Option.{is_some}
use Rattle.options.specs.Values.{number_in}

-- the words begin with `reduce` and a number
abbrev pub is_short : List (List ℕ) → Bool
is_short (name ∷ number ∷ others) = bytes_eq name (codes "reduce") && is_some (number_in number)
is_short words = false

-- the words; if they begin with `reduce` and a number, with `--most` between those
abbrev pub spelled_out : List (List ℕ) → List (List ℕ)
spelled_out words = if is_short words then take 1 words ++ codes "--most" ∷ drop 1 words else words
