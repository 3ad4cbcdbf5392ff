use Rattle.ipnetwork_law_uses.proofs.address_sets.a_network_lies_in_one_block.Goals as goal

pub returns-clause-v4 : goal.returns-clause-v4
returns-clause-v4 c = λ networks blocks n h k. c.one_block.ensures.networks 32 networks blocks h n k

pub returns-clause-v6 : goal.returns-clause-v6
returns-clause-v6 c = λ networks blocks n h k. c.one_block.ensures.networks 128 networks blocks h n k
