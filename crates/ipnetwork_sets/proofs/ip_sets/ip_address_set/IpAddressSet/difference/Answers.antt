use Rattle.ipnetwork_sets.proofs.Known.{alone, least_of_families}
use Rattle.ipnetwork_sets.proofs.ip_sets.ip_address_set.IpAddressSet.difference.Goals as goal

pub returns : goal.returns
returns c =
    least_of_families alone c.args.self.now c.args.other.now _ _ _ _ _ _ _ c.v4.ensures.blocks c.v4-2.ensures.blocks
    c.v6.ensures.blocks c.v6-2.ensures.blocks
    c.difference.ensures c.difference-2.ensures c.of.ensures
