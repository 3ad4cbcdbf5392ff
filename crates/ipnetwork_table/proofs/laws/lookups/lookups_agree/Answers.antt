use Rattle.ipnetwork_table.proofs.Known.{answers_by_pair}
use Rattle.ipnetwork_table.proofs.laws.lookups.lookups_agree.Goals as goal

pub returns : goal.returns
returns g c =
    c.one_answer.ensures.one g.N.CidrNetwork.WIDTH c.args.table.now (g.N.CidrNetwork.number c.args.addr) _ _
    (λ n stored. (c.lookup.ensures.blocks n stored).block)
    (answers_by_pair g.N.CidrNetwork.pair _ _ _ c.lookup.result c.lookup.ensures.answer)
    (answers_by_pair g.N.CidrNetwork.pair _ _ _ c.lookup_steps-counted.result.0 c.lookup_steps-counted.ensures.answer)
