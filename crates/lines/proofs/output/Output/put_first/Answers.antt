use Rattle.lines.proofs.Known.{◌∙◌, sym, ap, put_directly_ok}
use Rattle.lines.proofs.output.Output.put_first.Goals as goal

pub returns-clause-ok : goal.returns-clause-ok
returns-clause-ok g c =
    put_directly_ok c.write_whole.result _ _ _ _ c.args.bytes.now (sym (ap (λ v. v.holds) c.self.view_is))
    (ap (λ v. v.waits) c.self.view_is ∙ c.requires.empty)
    c.write_whole.ensures.ok
