use Rattle.ipnetwork_c.proofs.Known.{[], get_or, arith, v6_in, number_of_octets, SetQuery, one_row_more}
use Rattle.ipnetwork_c.proofs.column_calls.ipnetwork_v6_index_contains_column.Goals as goal

pub loop-row-preserved : goal.loop-row-preserved
loop-row-preserved c =
    one_row_more (λ i. SetQuery 128 v6_in c.args.blocks.now (number_of_octets (get_or c.args.addresses.now i [])))
    c.loop-row.row c.args.answers.now c.loop-row.answers c.args.faults.now c.loop-row.faults 0
    c.v6_contains.new.answer c.v6_contains.result
    c.loop-row.invariant (omega arith) (omega arith) c.v6_contains.ensures
