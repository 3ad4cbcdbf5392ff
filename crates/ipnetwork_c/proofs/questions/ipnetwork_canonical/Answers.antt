use Rattle.ipnetwork_c.proofs.Known.{refl, On, Nothing}
use Rattle.ipnetwork_c.proofs.questions.ipnetwork_canonical.Goals as goal

pub returns-in-Ok : goal.returns-in-Ok
returns-in-Ok c = On (_, c.in-Ok.ensures, c.tell_network.ensures)

pub returns-in-Err : goal.returns-in-Err
returns-in-Err c = Nothing c.in-Err.ensures refl
