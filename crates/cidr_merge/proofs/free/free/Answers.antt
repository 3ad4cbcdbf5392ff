use Rattle.cidr_merge.proofs.Known.{inl, inr, refl}
use Rattle.cidr_merge.proofs.free.free.Goals as goal

pub returns-in-Ok : goal.returns-in-Ok
returns-in-Ok g c =
    let r = c.read_sides-pools.result in
    inr (r.0, r.1, r.2, rw c.in-Ok.is at c.read_sides-pools.ensures.read, rw c.is_empty-skips.ensures at c.find_free.ensures)

pub returns-in-Err : goal.returns-in-Err
returns-in-Err g c =
    inl (c.in-Err.fault, rw c.in-Err.is at c.read_sides-pools.ensures.stopped, (refl, c.refuse_lists.ensures))
