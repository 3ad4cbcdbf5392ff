use Rattle.ipnetwork_family.proofs.Known.{◌∙◌, sym, refl, left_at_last, left_before_last, falls, before_last}
use Rattle.ipnetwork_family.proofs.iter.NetworkIteratorIterator.next.Goals as goal
use Rattle.ipnetwork_family.proofs.iter.NetworkIteratorIterator.next.Goals.{then-same, else-same}

pub returns-clause-steps : goal.returns-clause-steps
returns-clause-steps g c =
    elim c.if-same.branch [
      | then-same w ↦ sym c.self.view_is ∙ left_at_last c.self.inside.is_done (g.A.Address.number c.self.inside.next)
          (g.A.Address.number c.self.inside.last) (g.A.Address.number c.self.inside.next) c.if-same.self c.if-self.false
          (c.same.ensures.0 w.if-same.true) refl w.self-is
      | else-same w ↦
          let before = before_last c.same.result (g.A.Address.number c.self.inside.next)
          (g.A.Address.number c.self.inside.last) c.self.invariant c.same.ensures w.if-same.false in
          sym c.self.view_is ∙ left_before_last c.self.inside.is_done (g.A.Address.number c.self.inside.next)
          (g.A.Address.number c.self.inside.last) (g.A.Address.number c.self.inside.next) c.if-same.self
          c.if-self.false before refl
          (rw w.next-self-inside.ensures at w.self-is)
    ]

pub returns-clause-goes : goal.returns-clause-goes
returns-clause-goes g c = falls c.args.self.now c.if-same.self (g.A.Address.number c.self.inside.next)
    c.self.inside.next (returns-clause-steps g c)
