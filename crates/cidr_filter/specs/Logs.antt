-- How logs are filtered one after another.
use Rattle.std.specs.Prelude.{◌≡◌, ℕ, ◌+◌, ◌-◌, ◌^◌, ◌||◌, ◌&&◌, ◌⊎◌, Bool, true, false, Option, None, Some, List, []}
use Rattle.std.specs.Prelude.{◌++◌, if◌then◌else◌, nat_lt, codes, bytes_eq, decimal, min}
use Rattle.lists.specs.KnownLists.{KnownLists}
use Rattle.cidr_filter.specs.Filters.{Filters, fresh, is_count, is_silent, name_head}
use Rattle.lines.specs.Outputs.{Written}
use Rattle.log_programs.specs.LogsInTurn.{EndsLogs}
use Rattle.log_programs.specs.WithoutAddress.{is_missed}
use Rattle.program.specs.LogLines.{log_lines}
use Rattle.cidr_filter.specs.declared.filter.Filter.{Filter}
use Rattle.cidr_filter.specs.declared.log.Tally.{Tally}
use Rattle.cidr_filter.specs.declared.logs.Outcome.{Outcome}

-- the label of a log, printed before its lines or their count, or in place of them: `(standard input)` for standard
-- input, else its name; empty if logs are not named
abbrev pub label_of : Bool → List ℕ → List ℕ
label_of named name = if named then if bytes_eq name (codes "-") then codes "(standard input)" else name else []

-- the filter for the log with this name
abbrev pub filter_for : Filter → List ℕ → Filter
filter_for filter name = record filter { name = label_of filter.named name }

-- what is printed at the end of a log if lines are counted: its label and a colon, or with `-Z` NUL, unless the label
-- is empty, and the number of its selected lines, at most 2^64 - 1
abbrev pub count_line : Bool → Bool → List ℕ → ℕ → List ℕ
count_line counts nul label selected =
    if counts then name_head nul label ++ (decimal (min selected (2 ^ 64 - 1)) ++ codes "\n") else []

-- what a log comes to: how many of its lines are selected, and whether it could not be opened or a line is missed
abbrev pub missing : Outcome
missing = record { selected = 0; missed = true }

abbrev pub outcome_of : Filter → Tally → Outcome
outcome_of filter tally = record { selected = tally.selected; missed = is_missed filter.bad tally.seen }

-- what no logs come to, and what logs and one more come to
abbrev pub nothing : Outcome
nothing = record { selected = 0; missed = false }

abbrev pub both : Outcome → Outcome → Outcome
both total one =
    record { selected = min (total.selected + one.selected) (2 ^ 64 - 1); missed = total.missed || one.missed }

-- the count after the lines of a log, unless one of these ended the run, and what the logs up to it come to; if the
-- count cannot be written (`cut`), that ends the run
abbrev pub CountsLog : Filter → Bool → Outcome → List ℕ → List ℕ → Option Tally → List ℕ → Option Outcome → Type 0
CountsLog filter cut total name added None text next = (text ≡ added) × (next ≡ None)
CountsLog filter cut total name added (Some tally) text next =
    (text ≡ added ++ count_line (is_count filter.shows) filter.nul (label_of filter.named name) tally.selected)
    × ((next ≡ Some (both total (outcome_of filter tally))) ⊎ ((cut ≡ true) × (next ≡ None)))

-- what the log with this name prints, and what the logs up to it come to, or `None` if it ends the run; it may not be
-- opened
abbrev pub FiltersLog : Filter → KnownLists → Bool → Outcome → List ℕ → List ℕ → Option Outcome → Type 0
FiltersLog filter known cut total name text next =
    (known.may_open name false × (text ≡ []) × (next ≡ Some (both total missing)))
    ⊎ (known.may_open name true × (added : List ℕ) × (tally : Option Tally)
    × ((log : List ℕ) → known.bytes_of name ≡ Some log
    → Filters cut (filter_for filter name) fresh (log_lines log) added tally)
    × CountsLog filter cut total name added tally text next)

-- no log more is opened: with `-q` (`silent`), after a selected line
abbrev pub is_enough : Bool → Outcome → Bool
is_enough silent total = silent && nat_lt 0 total.selected

-- the exit status after logs that come to this, or after one that ended the run: 0 if no log more is opened; else 2 if
-- one could not be opened or a line is missed; else 0 if a line was selected, and 1 if none was
abbrev pub status_by : Bool → Option Outcome → ℕ
status_by silent None = 2
status_by silent (Some total) = if is_enough silent total then 0 else if total.missed then 2
    else if nat_lt 0 total.selected then 0 else 1

-- the logs with these names were filtered
abbrev pub FiltersLogs : {W : Type 0} → Filter → KnownLists → List (List ℕ) → Written W → Written W → ℕ → Type 0
FiltersLogs filter known names old new result =
    EndsLogs (is_enough (is_silent filter.shows)) (FiltersLog filter known) (status_by (is_silent filter.shows)) nothing
    known names old new result
