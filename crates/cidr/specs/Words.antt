-- The words of a line, which is cut at each blank. Two adjacent blanks have an empty word between them.
use Rattle.std.specs.Prelude.{ℕ, ◌==◌, List}
use Rattle.std.specs.List.{slice_split}

-- `b' '`
abbrev pub blank : ℕ
blank = 32

-- the words of a line
abbrev pub words : List ℕ → List (List ℕ)
words line = slice_split (λ byte. byte == blank) line
