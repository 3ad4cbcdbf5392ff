use Rattle.ipnetwork_c.proofs.Known.{arith, row_text, one_row_more}
use Rattle.ipnetwork_c.proofs.text_columns.read_rows.Goals as goal

pub loop-row-preserved : goal.loop-row-preserved
loop-row-preserved g c =
    one_row_more (λ i. g.R.ReadsRow.reads (row_text c.args.texts.now c.args.offsets.now i)) c.loop-row.row
    c.args.rows.now c.loop-row.rows c.args.faults.now c.loop-row.faults c.index-rows-row.result
    c.read_row-fault.new.self c.read_row-fault.result
    c.loop-row.invariant (omega arith) (omega arith) c.read_row-fault.ensures.read
