use Rattle.cidr_merge.proofs.Known.{inl, inr, refl}
use Rattle.cidr_merge.proofs.run.merge.Goals as goal

pub returns-in-Ok : goal.returns-in-Ok
returns-in-Ok g c =
    let r = c.read_sides-first.result in
    inr (r.0, r.1, r.2, rw c.in-Ok.is at c.read_sides-first.ensures.read, rw c.is_empty.ensures at c.answer.ensures)

pub returns : goal.returns
returns g c =
    inl (c.in-Err.fault, rw c.in-Err.is at c.read_sides-first.ensures.stopped, (refl, c.refuse_lists.ensures))
