-- The options of the command line.
use Rattle.std.specs.Prelude.{ℕ, true, List, [], ◌∷◌, ◌++◌, codes}
use Rattle.log_programs.specs.Rows as rows
use Rattle.options.specs.Table.{Entry, IsTable, long_flag, long}
use Rattle.options.specs.declared.table.Kind.TheVariants as kinds
use Rattle.options.specs.declared.table.Table.{Table}

-- the rows of the options that only this program has: `--last`, `--last-wins`, `--network`, `--tally`, `--group`,
-- `--bad`, `--zero`, `--skip-bad`, `--networks`, `--ranges`, `--strict` and `--whole`
abbrev pub last : ℕ
last = 10

abbrev pub last_wins : ℕ
last_wins = 11

abbrev pub network : ℕ
network = 12

abbrev pub tally : ℕ
tally = 13

abbrev pub group : ℕ
group = 14

abbrev pub bad : ℕ
bad = 15

abbrev pub zeros : ℕ
zeros = 16

abbrev pub skips_bad : ℕ
skips_bad = 17

abbrev pub networks : ℕ
networks = 18

abbrev pub ranges : ℕ
ranges = 19

abbrev pub strict : ℕ
strict = 20

abbrev pub whole : ℕ
whole = 21

-- the options, in the order of their rows
abbrev pub entries : List Entry
entries =
    rows.shared ++ long_flag (codes "--last") ∷ long_flag (codes "--last-wins") ∷ long_flag (codes "--network")
    ∷ long_flag (codes "--tally") ∷ long (codes "--group") kinds.Lengths true ∷ long (codes "--bad") kinds.Rule true
    ∷ long_flag (codes "--zero") ∷ long_flag (codes "--skip-bad") ∷ long_flag (codes "--networks")
    ∷ long_flag (codes "--ranges") ∷ long_flag (codes "--strict") ∷ long_flag (codes "--whole")
    ∷ rows.late_quiet ∷ []

-- the pairs of options that may not be given together: some options for where addresses are looked for, `--tally` with
-- `--last`, two `-f`, and `--group` with `-f` or an option about its list
abbrev pub pairs : List (ℕ × ℕ)
pairs =
    rows.together ++ (tally, last) ∷ (group, rows.list) ∷ (group, network) ∷ (group, last_wins) ∷ (group, zeros)
    ∷ (group, ranges) ∷ (group, skips_bad) ∷ (group, strict) ∷ (group, whole) ∷ []

-- the table has these options and pairs, and requires `-f` or `--group`
abbrev pub IsOptions : Table → Type 0
IsOptions table = IsTable table entries pairs (rows.list ∷ group ∷ [])
