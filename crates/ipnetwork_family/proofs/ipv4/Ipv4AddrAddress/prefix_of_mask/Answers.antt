use Rattle.ipnetwork_family.proofs.Known.{refl, no_mask}
use Rattle.ipnetwork_family.proofs.ipv4.Ipv4AddrAddress.prefix_of_mask.Goals as goal

pub returns-else-mask-host_ones : goal.returns-else-mask-host_ones
returns-else-mask-host_ones c = rw (← c.from-mask.ensures)
    (no_mask 32 c.from-mask.result _ c.host_ones.result refl c.host_ones.ensures c.if-mask-host_ones.false)
