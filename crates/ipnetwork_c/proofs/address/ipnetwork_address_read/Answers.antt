use Rattle.ipnetwork_c.proofs.Known.{refl, On}
use Rattle.ipnetwork_c.proofs.address.ipnetwork_address_read.Goals as goal

pub returns-in-Ok : goal.returns-in-Ok
returns-in-Ok c = On (_, c.in-Ok.ensures, (refl, c.of.ensures))
