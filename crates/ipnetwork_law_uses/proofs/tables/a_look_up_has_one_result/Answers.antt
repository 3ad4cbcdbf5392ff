use Rattle.ipnetwork_law_uses.proofs.tables.a_look_up_has_one_result.Goals as goal

pub returns-clause-v4 : goal.returns-clause-v4
returns-clause-v4 g c = λ t x a b h p q. c.one_answer.ensures.one 32 t x a b h p q

pub returns-clause-v6 : goal.returns-clause-v6
returns-clause-v6 g c = λ t x a b h p q. c.one_answer.ensures.one 128 t x a b h p q
