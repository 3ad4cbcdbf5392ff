use Rattle.ipnetwork_law_uses.proofs.sets_of_networks.members_pass_the_test.Goals as goal

pub returns-clause-v4 : goal.returns-clause-v4
returns-clause-v4 c = λ n x. c.membership_is_computed.ensures 32 n x

pub returns-clause-v6 : goal.returns-clause-v6
returns-clause-v6 c = λ n x. c.membership_is_computed.ensures 128 n x
