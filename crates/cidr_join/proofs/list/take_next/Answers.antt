use Rattle.cidr_join.proofs.Known.{sym, line_ends, line_left, line_taken}
use Rattle.cidr_join.proofs.list.take_next.Goals as goal

pub returns-in-Ok-clause-ok : goal.returns-in-Ok-clause-ok
returns-in-Ok-clause-ok g c = line_taken c.args.rules c.args.listing.now.networks c.take_line.new.networks
    c.args.line.now c.in-Ok.ensures.ok

pub returns-in-Some-clause-ok : goal.returns-in-Some-clause-ok
returns-in-Some-clause-ok g c =
    line_left c.args.rules c.args.listing.now.networks c.take_line.new.networks c.args.line.now c.in-Err.fault
    c.in-Some.cause
    (sym c.in-Some.ensures) c.in-Err.ensures.err c.in-Err.ensures.kept

pub returns-in-None-clause-err : goal.returns-in-None-clause-err
returns-in-None-clause-err g c =
    line_ends c.args.rules c.args.listing.now.networks c.take_line.new.networks c.args.line.now c.in-Err.fault
    (sym c.in-None.ensures) c.in-Err.ensures.err
