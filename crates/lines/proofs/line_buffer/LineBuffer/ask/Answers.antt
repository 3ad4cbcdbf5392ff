use Rattle.lines.proofs.Known.{◌<◌, ◌≤◌, ◌-◌, length, take, drop, refl, sym, subst, arith, length-take, length-drop, length-take-le, IsPending, holds_more, holds_still, waits_more, waits_still}
use Rattle.lines.proofs.line_buffer.LineBuffer.ask.Goals as goal

pub returns-clause-read : goal.returns-clause-read
returns-clause-read g c =
    let inside = c.self.inside in
    let buffer = inside.buffer.now in
    let count = c.in-Ok.count in
    let part = c.read.new.buf in
    let room : inside.end < length buffer =
    subst (λ v. v.end < length v.bytes) (sym c.self.view_is) c.make_room.ensures.room in
    let some : 0 < length part =
    omega (
      arith,
      c.read.auto.buf,
      room,
      length-take (length buffer - inside.end) (drop inside.end buffer),
      length-drop inside.end buffer,
    ) in
    let order : inside.start ≤ inside.end = omega (arith, c.self.invariant.0.behind, c.self.invariant.0.up_to) in
    record {
      chunk = take count part;
      counted = length-take-le count part c.in-Ok.ensures.bound.0;
      consumed = c.in-Ok.ensures.bytes.0;
      holds = λ pending h. holds_more _ _ (take count part) pending
          (subst (λ v. IsPending v pending) (sym c.self.view_is) (c.make_room.ensures.holds pending h)) refl refl
          (waits_more inside.start inside.end count _ buffer part order c.self.invariant.0.within
          c.in-Ok.ensures.bound.0);
      at_end = λ none. c.in-Ok.ensures.bytes.1 none some;
    }

pub returns-in_default-clause-kept : goal.returns-in_default-clause-kept
returns-in_default-clause-kept g c = λ pending h.
    let inside = c.self.inside in
    holds_still _ _ pending (subst (λ v. IsPending v pending) (sym c.self.view_is)
    (c.make_room.ensures.holds pending h)) refl refl
    (waits_still inside.start inside.end _ inside.buffer.now c.read.new.buf c.self.invariant.0.within)
