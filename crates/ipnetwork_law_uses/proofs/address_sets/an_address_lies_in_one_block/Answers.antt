use Rattle.ipnetwork_law_uses.proofs.address_sets.an_address_lies_in_one_block.Goals as goal

pub returns-clause-v4 : goal.returns-clause-v4
returns-clause-v4 c = λ networks blocks a b x h i j m n. c.one_block.ensures.one 32 networks blocks a b x h i j m n

pub returns-clause-v6 : goal.returns-clause-v6
returns-clause-v6 c = λ networks blocks a b x h i j m n. c.one_block.ensures.one 128 networks blocks a b x h i j m n
