use Rattle.cidr.proofs.Known.{same_test}
use Rattle.cidr.proofs.commands.rel.is_part.Goals as goal

pub returns : goal.returns
returns c =
    same_test _ _ _ c.is_subnet_of.ensures
    (c.ip_subnet_is_computed.ensures c.args.network.now c.args.other.now c.prefix.ensures.network
    c.prefix-2.ensures.network)
