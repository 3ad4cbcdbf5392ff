-- How a line is filtered.
use Rattle.std.specs.Prelude.{◌≡◌, ℕ, true, false, IsTrue, List}
use Rattle.lines.specs.Outputs.{Written, Prints, FailsIn}
use Rattle.cidr_filter.specs.Filters.{IsVerdict, is_refused, shown, tally_with}
use Rattle.cidr_filter.specs.declared.filter.Filter.{Filter}
use Rattle.cidr_filter.specs.declared.filter.Verdict.{Verdict}
use Rattle.cidr_filter.specs.declared.log.Tally.{Tally}
use Rattle.program.specs.declared.log_fault.LogFault.{LogFault}
use Rattle.program.specs.declared.log_fault.LogFault.TheVariants as faults

-- the line does not end the run, and was filtered
abbrev pub PassesLine : {W : Type 0} → Filter → List ℕ → List ℕ → Written W → Tally → Written W → Tally → Type 0
PassesLine filter line text old was new is = (verdict : Verdict) × IsVerdict filter was.seen.lines line verdict
    × (is_refused filter verdict ≡ false) × Prints old new (shown filter was verdict line text)
    × (is ≡ tally_with filter was verdict)

-- the line ends the run
abbrev pub RefusesLine : {W : Type 0} → Filter → List ℕ → Written W → Tally → Written W → Type 0
RefusesLine filter line old was new = (verdict : Verdict) × IsVerdict filter was.seen.lines line verdict
    × (is_refused filter verdict ≡ true) × (new ≡ old)

-- the line stops the filtering by this fault
abbrev pub LineStops : {W : Type 0} → Filter → List ℕ → List ℕ → Written W → Tally → Written W → LogFault → Type 0
LineStops filter line text old was new faults.Read = ⊥
LineStops filter line text old was new faults.Write = IsTrue new.failed × (verdict : Verdict)
    × IsVerdict filter was.seen.lines line verdict × (is_refused filter verdict ≡ false)
    × FailsIn old new (shown filter was verdict line text)
LineStops filter line text old was new faults.Address = RefusesLine filter line old was new
LineStops filter line text old was new faults.Length = RefusesLine filter line old was new
LineStops filter line text old was new faults.Endless = ⊥
