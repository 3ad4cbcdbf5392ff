use Rattle.lines.proofs.Known.{◌++◌, subst, OnOk, OnErr, on_err_any, put_behind_ok, begins_within, begins_behind_err, Puts, AppendsBeginning, inner_of}
use Rattle.lines.proofs.output.Output.put.Goals as goal

pub returns-in_err-hand_on-clause-err : goal.returns-in_err-hand_on-clause-err
returns-in_err-hand_on-clause-err g c =
    on_err_any c.from_residual.result
    (subst (λ v. AppendsBeginning v.holds (g.W.Write.contents (inner_of c.hand_on.new.writer))
    (v.waits ++ c.args.bytes.now)) c.self.view_is
    (begins_within _ _ _ c.args.bytes.now c.in_err-hand_on.ensures.err))

pub returns-clause-ok : goal.returns-clause-ok
returns-clause-ok g c =
    subst (λ v. OnOk c.put_first.result
    (Puts v.holds v.waits c.put_first.new.self.holds c.put_first.new.self.waits c.args.bytes.now)) c.self.view_is
    (put_behind_ok c.put_first.result _ _ _ _ _ c.args.bytes.now c.in_ok-hand_on.ensures.ok c.put_first.ensures.ok)

pub returns-clause-err : goal.returns-clause-err
returns-clause-err g c =
    subst (λ v. OnErr c.put_first.result
    (AppendsBeginning v.holds c.put_first.new.self.holds (v.waits ++ c.args.bytes.now))) c.self.view_is
    (begins_behind_err c.put_first.result _ _ _ _ c.args.bytes.now c.in_ok-hand_on.ensures.ok c.put_first.ensures.err)
