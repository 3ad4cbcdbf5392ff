use Rattle.ipnetwork_sets.proofs.Known.{sym, v4_own}
use Rattle.ipnetwork_sets.proofs.ip_sets.ip_address_set.IpAddressSet.v4.Goals as goal

pub returns-clause-blocks : goal.returns-clause-blocks
returns-clause-blocks c = v4_own c.args.self.now c.self.inside.v4 c.self.inside.v6 (sym c.self.view_is)
