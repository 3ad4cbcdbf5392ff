use Rattle.ipnetwork_c.proofs.Known.{ℕ, ◌<◌, FitsAt}
use Rattle.ipnetwork_c.proofs.printed_columns.first_fault.Given as goal

abbrev pub invariant-loop-row : goal.invariant-loop-row
invariant-loop-row g l = (k : ℕ) → k < l.row → FitsAt g.R.PrintsRow.fits l.rows k
