use Rattle.cidr_join.proofs.Known.{◌≡◌, map, take, Prints, rows_text, row_of}
use Rattle.cidr_join.proofs.tally_logs.put_rows.Given as goal

abbrev pub invariant-loop-row : goal.invariant-loop-row
invariant-loop-row g l = record {
  put : Prints l.initial.output l.output (rows_text (map row_of (take l.row-index l.rows)));
  failed : l.output.failed ≡ l.initial.output.failed;
}
