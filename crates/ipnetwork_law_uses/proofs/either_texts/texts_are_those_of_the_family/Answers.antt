use Rattle.ipnetwork_law_uses.proofs.either_texts.texts_are_those_of_the_family.Goals as goal

pub returns-clause-v4 : goal.returns-clause-v4
returns-clause-v4 c = c.each_is_read_in_its_family.ensures.v4

pub returns-clause-v6 : goal.returns-clause-v6
returns-clause-v6 c = c.each_is_read_in_its_family.ensures.v6

pub returns-clause-parsed : goal.returns-clause-parsed
returns-clause-parsed c = c.each_is_read_in_its_family.ensures.parsed
