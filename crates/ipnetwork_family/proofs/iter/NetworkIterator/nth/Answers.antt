use Rattle.ipnetwork_family.proofs.Known.{◌∙◌, ◌+◌, ap, arith, drop, slice_get, none_behind, none_left, none_passed, passed_item, passed_left}
use Rattle.ipnetwork_family.proofs.iter.NetworkIterator.nth.Goals as goal
use Rattle.ipnetwork_family.proofs.iter.NetworkIterator.nth.Goals.{then-same, else-same}

pub returns-then-self-clause-item : goal.returns-then-self-clause-item
returns-then-self-clause-item g c = (none_left c.self.inside.is_done (g.A.Address.number c.self.inside.next)
    (g.A.Address.number c.self.inside.last) c.args.n c.args.self.now c.if-self.true c.self.view_is).0

pub returns-then-self-clause-left : goal.returns-then-self-clause-left
returns-then-self-clause-left g c = (none_left c.self.inside.is_done (g.A.Address.number c.self.inside.next)
    (g.A.Address.number c.self.inside.last) c.args.n c.args.self.now c.if-self.true c.self.view_is).1

pub returns-then-left-n-clause-item : goal.returns-then-left-n-clause-item
returns-then-left-n-clause-item g c = (none_passed c.self.inside.is_done (g.A.Address.number c.self.inside.next)
    (g.A.Address.number c.self.inside.last) c.args.n c.if-self.false (omega arith)).0
    ∙ ap (λ l. slice_get l c.args.n) c.self.view_is

pub returns-then-left-n-clause-left : goal.returns-then-left-n-clause-left
returns-then-left-n-clause-left g c = (none_passed c.self.inside.is_done (g.A.Address.number c.self.inside.next)
    (g.A.Address.number c.self.inside.last) c.args.n c.if-self.false (omega arith)).1
    ∙ ap (drop (c.args.n + 1)) c.self.view_is

pub returns-clause-item : goal.returns-clause-item
returns-clause-item g c =
    passed_item c.self.inside.is_done (g.A.Address.number c.self.inside.next) (g.A.Address.number c.self.inside.last)
    c.args.n (g.A.Address.number c.plus-item.result) c.if-self.false c.self.invariant (omega arith) c.plus-item.ensures
    ∙ ap (λ l. slice_get l c.args.n) c.self.view_is

pub returns-clause-left : goal.returns-clause-left
returns-clause-left g c =
    elim c.if-same.branch [
      | then-same w ↦
          passed_left c.self.inside.is_done (g.A.Address.number c.self.inside.next)
          (g.A.Address.number c.self.inside.last) c.args.n (g.A.Address.number c.plus-item.result) c.if-same.self
          c.if-self.false c.self.invariant (omega arith) c.plus-item.ensures
          (none_behind (g.A.Address.number c.self.inside.last) (g.A.Address.number c.plus-item.result) c.if-same.self
          (c.same.ensures.0 w.if-same.true) w.self-is)
          ∙ ap (drop (c.args.n + 1)) c.self.view_is
      | else-same w ↦
          passed_left c.self.inside.is_done (g.A.Address.number c.self.inside.next)
          (g.A.Address.number c.self.inside.last) c.args.n (g.A.Address.number c.plus-item.result) c.if-same.self
          c.if-self.false c.self.invariant (omega arith) c.plus-item.ensures
          (rw c.if-self.false at (rw w.next-self-inside.ensures at w.self-is))
          ∙ ap (drop (c.args.n + 1)) c.self.view_is
    ]
