use Rattle.cidr_join.proofs.Known.{◌≡◌, map, row_of, entry_row}
use Rattle.cidr_join.proofs.tally.Tally.into_rows.Given as goal

abbrev pub invariant-loop-text : goal.invariant-loop-text
invariant-loop-text l = map row_of l.rows.items ≡ map entry_row l.yielded
