use Rattle.ipnetwork_law_uses.proofs.address_sets.unions_go_by_their_lists.Goals as goal

pub returns-clause-none : goal.returns-clause-none
returns-clause-none c = λ x. (c.unions.ensures.none 32 x, c.unions.ensures.none 128 x)

pub returns-clause-v4 : goal.returns-clause-v4
returns-clause-v4 c = λ n others x. c.unions.ensures.list 32 n others x

pub returns-clause-v6 : goal.returns-clause-v6
returns-clause-v6 c = λ n others x. c.unions.ensures.list 128 n others x
