use Rattle.ipnetwork_law_uses.proofs.address_sets.blocks_of_an_aggregate_are_apart.Goals as goal

pub returns-clause-v4 : goal.returns-clause-v4
returns-clause-v4 c = λ networks blocks h. c.one_block.ensures.apart 32 networks blocks h

pub returns-clause-v6 : goal.returns-clause-v6
returns-clause-v6 c = λ networks blocks h. c.one_block.ensures.apart 128 networks blocks h
