use Rattle.ipnetwork_sets.proofs.Known.{subst, IsIpAddressSet, set_of_families}
use Rattle.ipnetwork_sets.proofs.ip_sets.ip_address_set.IpAddressSet.iter.Goals as goal

pub returns-clause-set : goal.returns-clause-set
returns-clause-set c = subst IsIpAddressSet c.self.view_is
    (set_of_families c.self.inside.v4 c.self.inside.v6 c.self.invariant.0 c.self.invariant.1)
