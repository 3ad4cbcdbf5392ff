-- The rows of the options that all programs for logs share.
use Rattle.std.specs.Prelude.{ℕ, List, [], ◌∷◌, true, codes}
use Rattle.options.specs.Table.{Entry, flag, long_flag, alone, valued, long}
use Rattle.options.specs.declared.table.Kind.TheVariants as kinds

-- the row numbers of `-a`, `-w`, `-k`, `-d`, `--after`, `--mapped`, `-f` and `--nth`
abbrev pub anywhere : ℕ
anywhere = 0

abbrev pub words : ℕ
words = 1

abbrev pub field : ℕ
field = 2

abbrev pub separator : ℕ
separator = 3

abbrev pub after : ℕ
after = 4

abbrev pub mapped : ℕ
mapped = 5

abbrev pub list : ℕ
list = 6

abbrev pub nth : ℕ
nth = 9

-- the shared rows: those eight, and before the last of them `--help` and `--version`, each allowed only by itself
abbrev pub shared : List Entry
shared =
    flag (codes "a") ∷ flag (codes "w") ∷ valued (codes "k") kinds.Field ∷ valued (codes "d") kinds.Separator
    ∷ long (codes "--after") kinds.Text true ∷ long_flag (codes "--mapped") ∷ valued (codes "f") kinds.File
    ∷ alone (codes "--help") ∷ alone (codes "--version") ∷ long (codes "--nth") kinds.Nth true ∷ []

-- the last row, after those of a program: `--quiet` as the first word is taken off before the options are read, so
-- that
-- one that is found is after another word
abbrev pub late_quiet : Entry
late_quiet = alone (codes "--quiet")

-- the pairs that exclude each other: `--after` with `-a`, `-w`, `-k` or `-d`, and `-w` with `-d`
abbrev pub together : List (ℕ × ℕ)
together =
    (after, anywhere) ∷ (after, words) ∷ (after, field) ∷ (after, separator) ∷ (words, separator) ∷ []
