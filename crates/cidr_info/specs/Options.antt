-- The options of the command line.
use Rattle.std.specs.Prelude.{ℕ, true, List, [], ◌∷◌, codes}
use Rattle.options.specs.Table.{Entry, IsTable, long_flag, long, alone}
use Rattle.options.specs.declared.table.Kind.TheVariants as kinds
use Rattle.options.specs.declared.table.Table.{Table}

-- the index of the row of `--in`
abbrev pub in_network : ℕ
in_network = 0

-- the index of the row of `--json`
abbrev pub json : ℕ
json = 1

-- the index of the row of `--zones`
abbrev pub zones : ℕ
zones = 2

-- the options, in the order of their rows
abbrev pub entries : List Entry
entries =
    long (codes "--in") kinds.Text true ∷ long_flag (codes "--json")
    ∷ long_flag (codes "--zones") ∷ alone (codes "--help") ∷ alone (codes "--version") ∷ alone (codes "--quiet") ∷ []

-- `--in` may be given only once, and no two of the three options go together
abbrev pub pairs : List (ℕ × ℕ)
pairs = (in_network, in_network) ∷ (in_network, json) ∷ (in_network, zones) ∷ (json, zones) ∷ []

-- the table has these options and these pairs, and requires no option
abbrev pub IsOptions : Table → Type 0
IsOptions table = IsTable table entries pairs []
