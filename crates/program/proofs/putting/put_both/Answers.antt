use Rattle.program.proofs.Known.{rules, puts_two, fails_first}
use Rattle.program.proofs.putting.put_both.Goals as goal

pub returns-in_err-put : goal.returns-in_err-put
returns-in_err-put g c =
    fails_first c.from_residual.result c.args.output.now c.put.new.self c.args.first.now c.args.second.now
    (search rules) c.in_err-put.ensures.failed c.in_err-put.ensures.err

pub returns : goal.returns
returns g c =
    puts_two c.put-2.result c.args.output.now c.put.new.self c.put-2.new.self c.args.first.now c.args.second.now
    c.in_ok-put.ensures.ok c.in_ok-put.ensures.failed
    (record { ok = c.put-2.ensures.ok; failed = c.put-2.ensures.failed; beginning = c.put-2.ensures.err })
