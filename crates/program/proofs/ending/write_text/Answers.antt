use Rattle.program.proofs.Known.{ℕ, List, subst, Prints, begins_if_failed}
use Rattle.program.proofs.ending.write_text.Goals as goal

pub returns-clause-cut : goal.returns-clause-cut
returns-clause-cut g c =
    let old = c.args.output.now in
    let mid = c.put.new.self in
    begins_if_failed c.finish.result old mid c.finish.new.self c.args.text.now
    (subst (λ (t : List ℕ). Prints old mid t) c.as_bytes.ensures.value c.in_ok-put.ensures.ok) c.finish.ensures.err
