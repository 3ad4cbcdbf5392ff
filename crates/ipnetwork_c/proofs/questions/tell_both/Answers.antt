use Rattle.ipnetwork_c.proofs.Known.{refl, On, Nothing}
use Rattle.ipnetwork_c.proofs.questions.tell_both.Goals as goal

pub returns-in-Err : goal.returns-in-Err
returns-in-Err g c = Nothing c.in-Err.ensures refl

pub returns-in-Err-network : goal.returns-in-Err-network
returns-in-Err-network g c = On (_, c.in-Ok.ensures, Nothing c.in-Err-network.ensures refl)
