use Rattle.cidr_info.proofs.Known.{inr}
use Rattle.cidr_info.proofs.run.read.Goals as goal

pub returns-in-Ok : goal.returns-in-Ok
returns-in-Ok g c = inr (c.in-Ok.input.items, c.in-Ok.ensures.ok, rw c.as_slice.ensures.value at c.answer.ensures)
