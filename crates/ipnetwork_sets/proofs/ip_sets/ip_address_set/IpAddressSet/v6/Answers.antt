use Rattle.ipnetwork_sets.proofs.Known.{sym, v6_own}
use Rattle.ipnetwork_sets.proofs.ip_sets.ip_address_set.IpAddressSet.v6.Goals as goal

pub returns-clause-blocks : goal.returns-clause-blocks
returns-clause-blocks c = v6_own c.args.self.now c.self.inside.v4 c.self.inside.v6 (sym c.self.view_is)
