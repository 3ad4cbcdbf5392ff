use Rattle.ipnetwork_c.proofs.Known.{sym, On}
use Rattle.ipnetwork_c.proofs.address.ipnetwork_address_canonical.Goals as goal

pub returns-in-Some : goal.returns-in-Some
returns-in-Some c = On (_, sym c.in-Some.ensures, c.tell_address.ensures)
