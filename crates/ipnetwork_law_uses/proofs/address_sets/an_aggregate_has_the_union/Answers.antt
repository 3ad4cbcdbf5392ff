use Rattle.ipnetwork_law_uses.proofs.address_sets.an_aggregate_has_the_union.Goals as goal

pub returns-clause-v4 : goal.returns-clause-v4
returns-clause-v4 c = λ networks blocks h. c.same_union.ensures 32 networks blocks h

pub returns-clause-v6 : goal.returns-clause-v6
returns-clause-v6 c = λ networks blocks h. c.same_union.ensures 128 networks blocks h
