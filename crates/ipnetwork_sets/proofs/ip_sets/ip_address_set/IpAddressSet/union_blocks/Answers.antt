use Rattle.ipnetwork_sets.proofs.Known.{either, least_of_families}
use Rattle.ipnetwork_sets.proofs.ip_sets.ip_address_set.IpAddressSet.union_blocks.Goals as goal

pub returns : goal.returns
returns c =
    least_of_families either c.args.self.now c.args.other.now _ _ _ _ _ _ _ c.v4.ensures.blocks c.v4-2.ensures.blocks
    c.v6.ensures.blocks c.v6-2.ensures.blocks
    c.union_blocks.ensures c.union_blocks-2.ensures c.of.ensures
