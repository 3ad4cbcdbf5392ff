use Rattle.ipnetwork.proofs.Known.{subnet_computed}
use Rattle.ipnetwork.proofs.laws.sets.ip_subnet_is_computed.Goals as goal

pub returns : goal.returns
returns c = subnet_computed c.subnet_is_computed.ensures
