use Rattle.lines.proofs.Known.{◌+◌, ◌≤◌, length, take, drop, refl, sym, subst, arith, length-take, length-drop, drop-nil, waits, HasNoFeed, IsPending, all_dropped}
use Rattle.lines.proofs.line_buffer.LineBuffer.make_room.Goals as goal

pub returns-then-self-clause-holds : goal.returns-then-self-clause-holds
returns-then-self-clause-holds c = λ pending h.
    let inside = c.self.inside in
    let size : inside.limit + 2 ≤ length (drop inside.start (take inside.end inside.buffer.now)) = omega (
      arith,
      c.self.invariant.1,
      c.if-self.true,
      c.if-self-eq0.true,
      length-drop inside.start (take inside.end inside.buffer.now),
      length-take inside.end inside.buffer.now,
    ) in
    all_dropped _ _ pending (subst (λ v. IsPending v pending) (sym c.self.view_is) h)
    (subst (λ v. HasNoFeed (waits v)) (sym c.self.view_is) c.requires) size refl refl (drop-nil inside.start)
