use Rattle.ipnetwork_sets.proofs.Known.{rest, least_of_families}
use Rattle.ipnetwork_sets.proofs.ip_sets.ip_address_set.IpAddressSet.complement.Goals as goal

pub returns : goal.returns
returns c =
    least_of_families rest c.args.self.now c.args.self.now _ _ _ _ _ _ _ c.v4.ensures.blocks c.v4.ensures.blocks
    c.v6.ensures.blocks c.v6.ensures.blocks
    c.complement.ensures c.complement-2.ensures c.of.ensures
