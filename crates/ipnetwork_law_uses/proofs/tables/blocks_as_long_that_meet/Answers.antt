use Rattle.ipnetwork_law_uses.proofs.tables.blocks_as_long_that_meet.Goals as goal

pub returns-clause-v4 : goal.returns-clause-v4
returns-clause-v4 c = λ m n x h k e p q. c.blocks_of_any_width_that_meet.ensures 32 m n x h k e p q

pub returns-clause-v6 : goal.returns-clause-v6
returns-clause-v6 c = λ m n x h k e p q. c.blocks_of_any_width_that_meet.ensures 128 m n x h k e p q
