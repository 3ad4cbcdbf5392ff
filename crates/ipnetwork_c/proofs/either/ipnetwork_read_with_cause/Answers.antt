use Rattle.ipnetwork_c.proofs.Known.{refl, V6, On}
use Rattle.ipnetwork_c.proofs.either.ipnetwork_read_with_cause.Goals as goal

pub returns-in-Some : goal.returns-in-Some
returns-in-Some c = On (V6 c.in-Some.read, c.in-Some.ensures, (refl, c.of_v6.ensures))
