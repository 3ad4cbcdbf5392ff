use Rattle.ipnetwork_law_uses.proofs.either_texts.networks_are_made_in_the_family.Goals as goal

pub returns-clause-v4 : goal.returns-clause-v4
returns-clause-v4 c = c.each_is_made_in_its_family.ensures.v4

pub returns-clause-v6 : goal.returns-clause-v6
returns-clause-v6 c = c.each_is_made_in_its_family.ensures.v6

pub returns-clause-refused : goal.returns-clause-refused
returns-clause-refused c = c.each_is_made_in_its_family.ensures.refused

pub returns-clause-takes_v4 : goal.returns-clause-takes_v4
returns-clause-takes_v4 c = c.each_is_made_in_its_family.ensures.takes_v4

pub returns-clause-takes_v6 : goal.returns-clause-takes_v6
returns-clause-takes_v6 c = c.each_is_made_in_its_family.ensures.takes_v6
