use Rattle.ipnetwork_c.proofs.Known.{[], get_or, AnswersEach, v6_in, number_of_octets, SetQuery}
use Rattle.ipnetwork_c.proofs.column_calls.ipnetwork_v6_index_contains_column.Given as goal

abbrev pub invariant-loop-row : goal.invariant-loop-row
invariant-loop-row l = AnswersEach (λ i. SetQuery 128 v6_in l.blocks (number_of_octets (get_or l.addresses i []))) l.row
    l.initial.answers l.answers l.initial.faults l.faults
