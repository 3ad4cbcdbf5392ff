use Rattle.cidr_join.proofs.Known.{done, not_done, ending, DoesRequest, PROGRAM, HELP, VERSION}
use Rattle.cidr_join.proofs.run.run.Goals as goal

pub returns-in-Ok : goal.returns-in-Ok
returns-in-Ok g c =
    let end = ending c.args.output.now c.join.new.output c.args.errors.now c.join.new.errors c.join.result in (
      c.table.result,
      c.table.ensures,
      done c.table.result PROGRAM.now HELP.now VERSION.now c.args.words.now _
          (DoesRequest (g.L.OpenLists.known c.args.lists.now) end) _ c.in-Ok.ensures.asks
          (rw (c.as_slice.ensures.value, c.in-Ok.ensures.silent.0) at c.join.ensures),
    )

pub returns-in-Err : goal.returns-in-Err
returns-in-Err g c =
    let end = ending c.args.output.now c.asked.new.output c.args.errors.now c.asked.new.errors c.in-Err.status in (
      c.table.result,
      c.table.ensures,
      not_done c.table.result PROGRAM.now HELP.now VERSION.now c.args.words.now _
          (DoesRequest (g.L.OpenLists.known c.args.lists.now) end) c.in-Err.ensures.ends,
    )
