use Rattle.ipnetwork_sets.proofs.Known.{through, in_v4, in_v6}
use Rattle.ipnetwork_sets.proofs.ip_sets.ip_address_set.IpAddressSet.contains.Goals as goal

pub returns-in-V4 : goal.returns-in-V4
returns-in-V4 c = rw c.in-V4.is
    (through (rw c.v4.ensures.blocks at c.contains.ensures) (in_v4 c.args.self.now c.in-V4.addr))

pub returns-in-V6 : goal.returns-in-V6
returns-in-V6 c = rw c.in-V6.is
    (through (rw c.v6.ensures.blocks at c.contains-in-V6.ensures) (in_v6 c.args.self.now c.in-V6.addr))
