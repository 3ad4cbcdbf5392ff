use Rattle.program.proofs.Known.{refl, stops_else, stops_failed, handed_all, handed_some, failed_now}
use Rattle.program.proofs.log_fault.stop.Goals as goal

pub returns-in-Write : goal.returns-in-Write
returns-in-Write g c = stops_failed c.args.fault c.args.output.now c.args.output.now c.in-Write.is refl

pub returns-in-Ok : goal.returns-in-Ok
returns-in-Ok g c =
    stops_else c.args.fault c.args.output.now c.hand_on.new.self c.in_default.not-Write
    (handed_all c.args.output.now c.hand_on.new.self c.in-Ok.ensures.ok)

pub returns-in-Err : goal.returns-in-Err
returns-in-Err g c =
    stops_else c.args.fault c.args.output.now c.hand_on.new.self c.in_default.not-Write
    (handed_some c.args.output.now c.hand_on.new.self
    (failed_now c.hand_on.new.self.failed _ c.in-Err.ensures.failed) c.in-Err.ensures.err)
