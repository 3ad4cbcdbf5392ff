use Rattle.program.proofs.Known.{tells_on}
use Rattle.program.proofs.messages.tell_of.Goals as goal

pub returns : goal.returns
returns g c = tells_on c.tell.ensures c.tell-2.ensures
