use Rattle.lines.proofs.Known.{inl, inr, take, refl, sym, subst, arith, length-take-le, waits, HasNoFeed, IsPending, absent_behind, ends_line, ends_too_long}
use Rattle.lines.proofs.line_buffer.LineBuffer.next_unended.Goals as goal

pub invariant_of-self : goal.invariant_of-self
invariant_of-self c =
    let inside = c.self.inside in
    let places = c.self.invariant.0 in
    let front = take inside.end inside.buffer.now in
    let size = length-take-le inside.end inside.buffer.now places.within in (
      record {
        before = places.before;
        of_line = places.of_line;
        line_within = places.line_within;
        behind = omega (arith, places.behind, places.up_to);
        up_to = omega arith;
        within = places.within;
      },
      c.self.invariant.1,
      λ place low high. absent_behind front inside.start
          (subst (λ v. HasNoFeed (waits v)) (sym c.self.view_is) c.requires) place low (omega (arith, high, size)),
    )

pub returns-then-self-clause-gives : goal.returns-then-self-clause-gives
returns-then-self-clause-gives c = λ pending h.
    let inside = c.self.inside in
    ends_too_long inside.buffer.now inside.start inside.end inside.limit inside.dropped _ inside.ended _ _ _ _ pending
    (subst (λ v. IsPending v pending) (sym c.self.view_is) h)
    (subst (λ v. HasNoFeed (waits v)) (sym c.self.view_is) c.requires) refl c.if-not-self.false
    c.self.invariant.0.within (inl c.if-self.true)

pub returns-then-count-self-clause-gives : goal.returns-then-count-self-clause-gives
returns-then-count-self-clause-gives c = λ pending h.
    let inside = c.self.inside in
    ends_too_long inside.buffer.now inside.start inside.end inside.limit inside.dropped _ inside.ended _ _ _ _ pending
    (subst (λ v. IsPending v pending) (sym c.self.view_is) h)
    (subst (λ v. HasNoFeed (waits v)) (sym c.self.view_is) c.requires) c.if-self.false c.if-not-self.false
    c.self.invariant.0.within
    (inr (c.if-count-self.true, c.if-self.false))

pub returns-clause-gives : goal.returns-clause-gives
returns-clause-gives c = λ pending h.
    let inside = c.self.inside in
    ends_line inside.buffer.now inside.start inside.end inside.limit inside.dropped inside.ended _ _ pending
    (subst (λ v. IsPending v pending) (sym c.self.view_is) h)
    (subst (λ v. HasNoFeed (waits v)) (sym c.self.view_is) c.requires) c.if-self.false c.if-not-self.false
    (omega (arith, c.if-count-eq0.false)) c.self.invariant.0.within (omega (arith, c.if-count-self.false))
