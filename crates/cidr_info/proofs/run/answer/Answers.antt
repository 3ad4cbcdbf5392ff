use Rattle.cidr_info.proofs.Known.{◌∙◌, ap, inr, ending, status_of, ends_with, answer_text, outer_of, words_said}
use Rattle.cidr_info.specs.Runs as runs
use Rattle.cidr_info.proofs.run.answer.Goals as goal

pub returns : goal.returns
returns g c =
    let items = c.args.items.now in
    let all = words_said c.args.input.now items in
    let same = c.as_slice-all.ensures.value ∙ c.in-Ok.ensures in
    inr (ends_with c.write_answer-written.result
    (ending c.args.output.now c.write_answer-written.new.output c.args.errors.now c.end.new.errors c.end.result)
    (answer_text items all) (runs.status_of (outer_of items) all) (rw same at c.write_answer-written.ensures.ok) (rw
    same at c.write_answer-written.ensures.err)
    (c.end.ensures ∙ ap (status_of c.write_answer-written.result)
    (c.status_of-status.ensures ∙ ap (λ o. runs.status_of o c.as_slice-all.result.now) c.outer_of.ensures
    ∙ ap (runs.status_of (outer_of items)) same)))
