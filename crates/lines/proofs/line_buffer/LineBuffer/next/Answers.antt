use Rattle.lines.proofs.Known.{inl, inr, refl, sym, subst, arith, waits, IsPending, IsCut, waits_line, waits_too_long}
use Rattle.lines.proofs.line_buffer.LineBuffer.next.Goals as goal

pub returns-then-self-clause-gives : goal.returns-then-self-clause-gives
returns-then-self-clause-gives c = λ pending h.
    let inside = c.self.inside in
    waits_too_long inside.buffer.now inside.start inside.end inside.limit inside.dropped _ inside.ended _ _ _ _
    c.in-Some.cut pending (subst (λ v. IsPending v pending) (sym c.self.view_is) h)
    (subst (λ v. IsCut (waits v) c.in-Some.cut) (sym c.self.view_is) c.in-Some.ensures) refl (inl c.if-self.true)

pub returns-then-cut-self-clause-gives : goal.returns-then-cut-self-clause-gives
returns-then-cut-self-clause-gives c = λ pending h.
    let inside = c.self.inside in
    waits_too_long inside.buffer.now inside.start inside.end inside.limit inside.dropped _ inside.ended _ _ _ _
    c.in-Some.cut pending (subst (λ v. IsPending v pending) (sym c.self.view_is) h)
    (subst (λ v. IsCut (waits v) c.in-Some.cut) (sym c.self.view_is) c.in-Some.ensures) c.if-self.false
    (inr (c.if-cut-self.true, c.if-self.false))

pub returns-clause-gives : goal.returns-clause-gives
returns-clause-gives c = λ pending h.
    let inside = c.self.inside in
    waits_line inside.buffer.now inside.start inside.end inside.limit inside.dropped inside.ended _ _ c.in-Some.cut
    pending (subst (λ v. IsPending v pending) (sym c.self.view_is) h)
    (subst (λ v. IsCut (waits v) c.in-Some.cut) (sym c.self.view_is) c.in-Some.ensures) c.if-self.false
    (omega (arith, c.if-cut-self.false))
