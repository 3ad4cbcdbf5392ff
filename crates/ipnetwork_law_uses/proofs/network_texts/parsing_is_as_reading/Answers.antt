use Rattle.ipnetwork_law_uses.proofs.network_texts.parsing_is_as_reading.Goals as goal

pub returns-clause-v4 : goal.returns-clause-v4
returns-clause-v4 c = c.parsing_is_reading.ensures.v4

pub returns-clause-v6 : goal.returns-clause-v6
returns-clause-v6 c = c.parsing_is_reading.ensures.v6
