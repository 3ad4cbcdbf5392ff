use Rattle.ipnetwork_law_uses.proofs.network_texts.errors_print_differently.Goals as goal

pub returns-clause-other : goal.returns-clause-other
returns-clause-other c = λ a b n e. n ((c.errors_by_their_texts.ensures.same a b).1 e)

pub returns-clause-same : goal.returns-clause-same
returns-clause-same c = λ a b h. (c.errors_by_their_texts.ensures.same a b).0 h

pub returns-clause-format : goal.returns-clause-format
returns-clause-format c = c.errors_by_their_texts.ensures.format
