use Rattle.cidr_merge.proofs.Known.{◌∙◌, inl, take_rest, sides_read}
use Rattle.cidr_merge.proofs.run.read_sides.Goals as goal

pub returns-in-Ok : goal.returns-in-Ok
returns-in-Ok g c =
    let words = c.args.context.now.names.now in
    let seconds = c.read_side-second.result in
    let ends = sides_read seconds.2 (g.L.OpenLists.known c.args.context.now.lists.now)
    c.args.context.now.sets.now.fields c.args.context.now.sets.now.only words c.lists_behind-others.result.now c.args.request c.read_side-first.result.0 seconds.0
    c.read_side-first.result.1 seconds.1 ((rw c.in-Ok.is at c.lists_behind-others.ensures)
    ∙ take_rest words c.args.request.middle)
    (rw (c.in-Ok.is, c.new-none.ensures) at c.read_side-first.ensures.read)
    c.read_side-second.ensures.read c.read_side-second.ensures.stopped in
    record { read = ends.0; stopped = ends.1 }

pub returns-in-Err-clause-stopped : goal.returns-in-Err-clause-stopped
returns-in-Err-clause-stopped g c = inl (rw (c.in-Err.is, c.new-none.ensures) at c.read_side-first.ensures.stopped)
