use Rattle.ipnetwork_sets.proofs.Known.{length_of_both}
use Rattle.ipnetwork_sets.proofs.ip_sets.ip_address_set.IpAddressSet.len.Goals as goal

pub returns : goal.returns
returns c = length_of_both c.args.self.now _ _ _ _ c.blocks-2.ensures.blocks c.v4.ensures.blocks
    c.blocks-3.ensures.blocks c.v6.ensures.blocks
