use Rattle.ipnetwork_c.proofs.Known.{refl, Nothing}
use Rattle.ipnetwork_c.proofs.questions.tell.Goals as goal

pub returns-in-Err : goal.returns-in-Err
returns-in-Err g c = Nothing c.in-Err.ensures refl
