use Rattle.cidr_filter.proofs.Known.{◌∙◌, ◌++◌, ℕ, List, sym, refl, ap, subst, FailsIn, feed_behind, failed_now, head_of, shown_of, tally_with, Tally, left_out, not_written}
use Rattle.cidr_filter.proofs.log.filter_judged.Goals as goal

pub returns-then-not-is_selected-clause-ok : goal.returns-then-not-is_selected-clause-ok
returns-then-not-is_selected-clause-ok g c =
    left_out c.args.filter.now c.args.line.now (c.args.whole.now ++ feed_behind c.args.end) c.args.output.now
    c.args.tally.now c.args.output.now c.judge-verdict.result c.judge-verdict.ensures
    (sym c.refuses.ensures ∙ c.if-refuses.false) c.selects-is_selected.result c.selects-is_selected.ensures
    c.if-not-is_selected.true refl c.add.new.self c.add.ensures

pub returns-in-Err-clause-err : goal.returns-in-Err-clause-err
returns-in-Err-clause-err g c =
    let filter = c.args.filter.now in
    let verdict = c.judge-verdict.result in
    let text = c.args.whole.now ++ feed_behind c.args.end in
    let number = ap (λ (t : Tally). t.seen.lines) c.add.ensures in
    not_written filter c.args.line.now text c.args.output.now c.args.tally.now c.print_selected.new.output verdict
    c.judge-verdict.ensures (sym c.refuses.ensures ∙ c.if-refuses.false) c.selects-is_selected.result
    c.selects-is_selected.ensures c.if-not-is_selected.false
    (failed_now c.print_selected.new.output.failed c.args.output.now.failed c.in-Err.ensures.failed)
    (subst (λ (l : List ℕ). FailsIn c.args.output.now c.print_selected.new.output (shown_of filter
    (head_of filter (tally_with filter c.args.tally.now verdict).seen.lines) verdict l text)) c.judged-part.ensures
    (subst (λ (n : ℕ). FailsIn c.args.output.now c.print_selected.new.output (shown_of filter (head_of filter n) verdict
    c.judged-part.result.now text)) number c.in-Err.ensures.beginning))
