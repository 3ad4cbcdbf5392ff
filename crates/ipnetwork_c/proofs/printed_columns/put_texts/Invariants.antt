use Rattle.ipnetwork_c.proofs.Known.{◌≡◌, length, take, flat_map, PrintsRows}
use Rattle.ipnetwork_c.proofs.printed_columns.put_texts.Given as goal

abbrev pub invariant-loop-row : goal.invariant-loop-row
invariant-loop-row g l = record {
  end : l.end ≡ length (flat_map g.R.PrintsRow.text (take l.row l.rows));
  printed : PrintsRows g.R.PrintsRow.text (take l.row l.rows) l.fn.texts l.texts l.fn.offsets l.offsets;
}
