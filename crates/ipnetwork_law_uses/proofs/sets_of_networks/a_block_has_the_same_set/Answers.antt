use Rattle.ipnetwork_law_uses.proofs.sets_of_networks.a_block_has_the_same_set.Goals as goal

pub returns-clause-v4 : goal.returns-clause-v4
returns-clause-v4 c = λ n x. c.blocks-2.ensures.same_set 32 n x

pub returns-clause-v6 : goal.returns-clause-v6
returns-clause-v6 c = λ n x. c.blocks-2.ensures.same_set 128 n x

pub returns-clause-clear : goal.returns-clause-clear
returns-clause-clear c = λ n. (c.blocks-2.ensures.no_host_bits 32 n, c.blocks-2.ensures.no_host_bits 128 n)

pub returns-clause-fits4 : goal.returns-clause-fits4
returns-clause-fits4 c = λ n h. c.blocks-2.ensures.fits 32 n h

pub returns-clause-fits6 : goal.returns-clause-fits6
returns-clause-fits6 c = λ n h. c.blocks-2.ensures.fits 128 n h
