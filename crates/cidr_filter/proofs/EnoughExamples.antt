-- Runs whose result is known at the first selected line, of one log or of all.
use Rattle.cidr_filter.proofs.Words.{◌≡◌, ℕ, digits, List, [], ◌∷◌, ◌++◌, true, false, refl, codes, map, Some, None, is_count, count_line, status_by, most_of, shows_of, is_named, Filter, Item, ended}
use Rattle.cidr_filter.specs.declared.filter.OutputMode.TheVariants as shows
use Rattle.cidr_filter.specs.declared.filter.Verdict.TheVariants as verdicts
use Rattle.log_programs.specs.declared.without_address.WithoutAddress.TheVariants as without
use Rattle.options.specs.declared.items.Item.TheVariants as says
use Rattle.cidr_filter.proofs.Examples.{by, output_of}

-- ---- the options

-- `-c`, `-o` and `-l`, and these with `-q`
abbrev asks_names : List Item
asks_names = says.Flag 15 ∷ says.Flag 16 ∷ says.Flag 20 ∷ []

abbrev asks_nothing : List Item
asks_nothing = says.Flag 21 ∷ asks_names

-- the first of `-q`, `-l`, `-c` and `-o` that is given decides
pub what_is_printed : map shows_of (asks_nothing ∷ asks_names ∷ (says.Flag 16 ∷ says.Flag 15 ∷ []) ∷ (says.Flag 16 ∷ [])
    ∷ [] ∷ [])
    ≡ shows.Nothing ∷ shows.Names ∷ shows.Count ∷ shows.Addresses ∷ shows.Lines ∷ []
what_is_printed = refl

-- at most one line is selected, or none
pub how_many : map most_of (asks_names ∷ (says.Value 11 (codes "5") ∷ asks_nothing)
    ∷ (says.Value 11 (codes "0") ∷ asks_names) ∷ (says.Value 11 (codes "5") ∷ []) ∷ [])
    ≡ Some 1 ∷ Some 1 ∷ Some 0 ∷ Some 5 ∷ []
how_many = refl

pub named_without_another_option : is_named asks_names ≡ true
named_without_another_option = refl

-- `-c` with two logs, with one, with standard input, and with two and `-h`; and `-H` with one log
pub named_before_their_counts : map is_named
    ((says.Flag 15 ∷ says.File (codes "a") ∷ says.File (codes "b") ∷ []) ∷ (says.Flag 15 ∷ says.File (codes "a") ∷ [])
    ∷ (says.Flag 15 ∷ [])
    ∷ (says.Flag 18 ∷ says.File (codes "a") ∷ says.Flag 15 ∷ says.File (codes "b") ∷ [])
    ∷ (says.Flag 15 ∷ says.Flag 17 ∷ []) ∷ [])
    ≡ true ∷ false ∷ false ∷ false ∷ true ∷ []
named_before_their_counts = refl

-- ---- what is printed

abbrev naming : Filter
naming = record (by false without.Drop) { most = Some 1; shows = shows.Names; named = true; name = codes "log" }

pub name_of_a_log : output_of naming 1 (verdicts.Inside None) (ended (codes "10.0.0.1")) ≡ codes "log\n"
name_of_a_log = refl

pub no_name_of_a_log : output_of naming 1 verdicts.Outside (ended (codes "10.0.0.1")) ≡ []
no_name_of_a_log = refl

pub no_number_beside_names : count_line (is_count shows.Names) false (codes "log") 2 ≡ []
no_number_beside_names = refl

-- `-Z` puts NUL in place of the colon, and nothing without a name
pub numbers_behind_nul : map (λ (label : List ℕ). count_line true true label 2) (codes "log" ∷ [] ∷ [])
    ≡ (codes "log" ++ 0 ∷ codes "2\n") ∷ codes "2\n" ∷ []
unfolding digits
numbers_behind_nul = refl

-- ---- the exit status

-- with `-q` after a selected line, even if a log was missed; without it; if no line was selected; after a line that
-- ends the run
pub statuses : map (status_by true) (Some (record { selected = 3; missed = true })
    ∷ Some (record { selected = 0; missed = true }) ∷ [])
    ++ map (status_by false) (Some (record { selected = 3; missed = true })
    ∷ Some (record { selected = 3; missed = false }) ∷ Some (record { selected = 0; missed = false }) ∷ None ∷ [])
    ≡ 0 ∷ 2 ∷ 2 ∷ 0 ∷ 1 ∷ 2 ∷ []
statuses = refl
