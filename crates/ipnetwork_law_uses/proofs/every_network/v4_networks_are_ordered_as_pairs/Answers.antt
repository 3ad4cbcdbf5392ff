use Rattle.ipnetwork_law_uses.proofs.every_network.v4_networks_are_ordered_as_pairs.Goals as goal

pub returns : goal.returns
returns c = c.networks_are_pairs.ensures.compare
