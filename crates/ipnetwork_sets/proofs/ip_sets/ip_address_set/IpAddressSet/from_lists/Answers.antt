use Rattle.ipnetwork_sets.proofs.Known.{aggregate_of_lists}
use Rattle.ipnetwork_sets.proofs.ip_sets.ip_address_set.IpAddressSet.from_lists.Goals as goal

pub returns : goal.returns
returns c = aggregate_of_lists c.args.v4.items c.args.v6.items _ _ _ c.from_networks.ensures c.from_networks-2.ensures
    c.from_parts.ensures
