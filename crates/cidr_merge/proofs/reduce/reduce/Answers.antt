use Rattle.cidr_merge.proofs.Known.{inl, inr, refl}
use Rattle.cidr_merge.proofs.reduce.reduce.Goals as goal

pub returns-in-Ok : goal.returns-in-Ok
returns-in-Ok g c =
    let r = c.read_side-sets.result in
    let side = c.read_side-sets.ensures.read in
    inr (r.0, r.1, rw (c.in-Ok.is, c.new-none.ensures) at side, rw c.is_empty.ensures at c.join.ensures)

pub returns-in-Err : goal.returns-in-Err
returns-in-Err g c =
    let stopped = c.read_side-sets.ensures.stopped in
    inl (c.in-Err.fault, rw (c.in-Err.is, c.new-none.ensures) at stopped, (refl, c.refuse_lists.ensures))
