use Rattle.ipnetwork_law_uses.proofs.address_sets.a_network_of_either_family_lies_in_one_block.Goals as goal

pub returns : goal.returns
returns c = λ networks blocks n h k. c.ip_one_block.ensures.networks networks blocks h n k
