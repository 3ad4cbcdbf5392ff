use Rattle.cidr_merge.proofs.Known.{◌∷◌, ◌+◌, ◌∙◌, drop, sym, ap, arith, take_rest, lines, line_before, last_alone, none_left}
use Rattle.cidr_merge.proofs.text_lines.TextLines.next.Goals as goal

pub returns-in-Some-clause-line : goal.returns-in-Some-clause-line
returns-in-Some-clause-line c =
    let text = c.args.self.now.text.now in
    let at = c.in-Some.end in
    line_before text at c.in-Some.ensures ∙ ap (λ l. l ∷ lines (drop (at + 1) text))
    (sym c.without_return.ensures)
    ∙ ap (λ t. c.without_return.result.now ∷ lines t) (sym (take_rest text (at + 1)))

pub returns-in-None-clause-line : goal.returns-in-None-clause-line
returns-in-None-clause-line c =
    let text = c.args.self.now.text.now in
    last_alone text (grind (arith, c.if-is_empty.false, c.is_empty.ensures)) c.in-None.ensures
    ∙ ap (λ ls. text ∷ ls) (sym (none_left text))
