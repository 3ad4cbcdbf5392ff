use Rattle.cidr_filter.proofs.Known.{second_of}
use Rattle.cidr_filter.proofs.networks.covers_either.Goals as goal

pub returns-else-covers_network-clause-covered : goal.returns-else-covers_network-clause-covered
returns-else-covers_network-clause-covered c = second_of c.covers_network-2.result
    c.covers_network-else-covers_network.result c.covers_network-2.ensures.covered
    c.covers_network-else-covers_network.ensures.covered c.if-covers_network.false
