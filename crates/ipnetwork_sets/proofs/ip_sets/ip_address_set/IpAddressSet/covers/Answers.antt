use Rattle.ipnetwork_sets.proofs.Known.{through, v4_family, v6_family, lies_in_family}
use Rattle.ipnetwork_sets.proofs.ip_sets.ip_address_set.IpAddressSet.covers.Goals as goal

pub returns-in-V4 : goal.returns-in-V4
returns-in-V4 c = rw c.in-V4.is
    (through (rw c.v4.ensures.blocks at c.covers.ensures) (lies_in_family v4_family c.args.self.now c.in-V4.network))

pub returns-in-V6 : goal.returns-in-V6
returns-in-V6 c = rw c.in-V6.is (through (rw c.v6.ensures.blocks at c.covers-in-V6.ensures)
    (lies_in_family v6_family c.args.self.now c.in-V6.network))
