use Rattle.cidr_merge.proofs.Known.{rules, finished, puts_badly, unfinished}
use Rattle.cidr_merge.proofs.run.write_answer.Goals as goal

pub returns-in_err-print : goal.returns-in_err-print
returns-in_err-print g c =
    let h = c.in_err-print.ensures in (
      h.0,
      h.1,
      unfinished _ c.args.output.now c.print.new.output h.0 (search rules)
          (puts_badly _ c.args.output.now c.print.new.output h.0 (search rules) h.2.failed h.2.beginning),
    )

pub returns : goal.returns
returns g c =
    let h = c.in_ok-print.ensures in (
      h.0,
      h.1,
      finished c.finish.result c.args.output.now c.print.new.output c.finish.new.self h.0 h.2.ok
          c.finish.ensures.ok c.finish.ensures.err c.finish.ensures.failed,
    )
