use Rattle.ipnetwork_c.proofs.Known.{◌≡◌, ◌*◌, ◌≤◌, length, take, flat_map}
use Rattle.ipnetwork_c.proofs.printed_columns.texts_length.Given as goal

abbrev pub invariant-loop-row : goal.invariant-loop-row
invariant-loop-row g l = record {
  whole : l.whole ≡ length (flat_map g.R.PrintsRow.text (take l.row l.rows));
  short : l.whole ≤ 43 * l.row;
}
