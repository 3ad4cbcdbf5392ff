use Rattle.program.proofs.Known.{tells_on}
use Rattle.program.proofs.messages.tell_head.Goals as goal

pub returns : goal.returns
returns g c = tells_on c.tell_of.ensures (rw c.as_bytes.ensures.value at c.tell_shown.ensures)
