use Rattle.ipnetwork_law_uses.proofs.sets_of_networks.one_set_is_one_block.Goals as goal

pub returns-clause-v4 : goal.returns-clause-v4
returns-clause-v4 c = λ a b h k. c.subnets.ensures.same 32 a b h k

pub returns-clause-v6 : goal.returns-clause-v6
returns-clause-v6 c = λ a b h k. c.subnets.ensures.same 128 a b h k
