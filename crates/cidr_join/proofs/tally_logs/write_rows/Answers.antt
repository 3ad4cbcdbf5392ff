use Rattle.cidr_join.proofs.Known.{none_or, or_on, on_err, written_all, failed_all}
use Rattle.cidr_join.proofs.tally_logs.write_rows.Goals as goal

pub returns-in_err-put_rows-clause-beginning : goal.returns-in_err-put_rows-clause-beginning
returns-in_err-put_rows-clause-beginning g c = on_err c.from_residual.result _ c.in_err-put_rows.ensures.beginning

pub returns-clause-ok : goal.returns-clause-ok
returns-clause-ok g c = written_all c.finish.result c.args.output.now c.put_rows.new.output c.finish.new.self _
    c.in_ok-put_rows.ensures.ok c.finish.ensures.ok

pub returns-clause-failed : goal.returns-clause-failed
returns-clause-failed g c = or_on _ _ _ _ (none_or _ _ c.in_ok-put_rows.ensures.failed) c.finish.ensures.failed

pub returns-clause-beginning : goal.returns-clause-beginning
returns-clause-beginning g c = failed_all c.finish.result c.args.output.now c.put_rows.new.output c.finish.new.self _
    c.in_ok-put_rows.ensures.ok c.finish.ensures.err
