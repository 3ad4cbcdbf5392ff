use Rattle.cidr.proofs.Known.{full_computed, computed_allowed, unrefused_computed, KeyLaws, unrefused_lines}
use Rattle.cidr.proofs.laws.outputs.output_without_refusals.Goals as goal

pub returns-clause-computed : goal.returns-clause-computed
returns-clause-computed c = computed_allowed c.answer_is_computed.ensures

pub returns-clause-only : goal.returns-clause-only
returns-clause-only c =
    let keys : KeyLaws =
    record {
      empty = c.keys_without_host_bits.ensures.empty;
      insert = c.keys_without_host_bits.ensures.insert;
      remove =
          c.keys_without_host_bits.ensures.remove;
    } in
    unrefused_computed c.answer_is_computed.ensures c.one_answer.ensures.one keys

pub returns-clause-full : goal.returns-clause-full
returns-clause-full c =
    let keys : KeyLaws =
    record {
      empty = c.keys_without_host_bits.ensures.empty;
      insert = c.keys_without_host_bits.ensures.insert;
      remove =
          c.keys_without_host_bits.ensures.remove;
    } in
    full_computed c.answer_is_computed.ensures c.one_answer.ensures.one keys

pub returns-clause-lines : goal.returns-clause-lines
returns-clause-lines c =
    let keys : KeyLaws =
    record {
      empty = c.keys_without_host_bits.ensures.empty;
      insert = c.keys_without_host_bits.ensures.insert;
      remove =
          c.keys_without_host_bits.ensures.remove;
    } in
    unrefused_lines (unrefused_computed c.answer_is_computed.ensures c.one_answer.ensures.one keys)
