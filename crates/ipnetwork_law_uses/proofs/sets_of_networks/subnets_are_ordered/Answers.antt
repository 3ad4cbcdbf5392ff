use Rattle.ipnetwork_law_uses.proofs.sets_of_networks.subnets_are_ordered.Goals as goal

pub returns-clause-own : goal.returns-clause-own
returns-clause-own c = λ a. (c.subnets.ensures.reflexive 32 a, c.subnets.ensures.reflexive 128 a)

pub returns-clause-v4 : goal.returns-clause-v4
returns-clause-v4 c = λ a b d h k. c.subnets.ensures.transitive 32 a b d h k

pub returns-clause-v6 : goal.returns-clause-v6
returns-clause-v6 c = λ a b d h k. c.subnets.ensures.transitive 128 a b d h k
