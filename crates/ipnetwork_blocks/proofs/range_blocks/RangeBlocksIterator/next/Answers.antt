use Rattle.ipnetwork_blocks.proofs.Known.{◌≤◌, ◌+◌, ℕ, ◌∙◌, sym, ap, iff_false, Network, high, not_before, ends_at_last, goes_on}
use Rattle.ipnetwork_blocks.proofs.RangeLists.{list_falls}
use Rattle.ipnetwork_blocks.proofs.range_blocks.RangeBlocksIterator.next.Goals as goal
use Rattle.ipnetwork_blocks.proofs.range_blocks.RangeBlocksIterator.next.Goals.{then-ends_before+in-Some, else-ends_before}

pub returns-clause-steps : goal.returns-clause-steps
returns-clause-steps g c =
    let w : ℕ = g.N.CidrNetwork.WIDTH in
    let b : Network = g.N.CidrNetwork.pair c.widest_block-block.result in
    let first : ℕ = g.N.CidrNetwork.number c.self.inside.next in
    let last : ℕ = g.N.CidrNetwork.number c.self.inside.last in
    let begins = c.widest_block-block.ensures.begins in
    let maximal = c.widest_block-block.ensures.maximal in
    elim c.if-ends_before.branch [
      | then-ends_before+in-Some v ↦
          let next : ℕ = g.N.CidrNetwork.number v.in-Some.next in
          sym c.self.view_is ∙ goes_on w first last next c.self.inside.is_done b c.if-ends_before.self c.if-self.false
          c.self.invariant.1 maximal begins
          (v.in-Some.ensures.1 ∙ ap (λ k. k + 1) v.broadcast.ensures) v.self-is
      | else-ends_before v ↦
          let ends : last ≤ high w b =
          not_before (high w b) last (iff_false c.ends_before.ensures v.if-ends_before.false) in
          sym c.self.view_is ∙ ends_at_last w first last c.self.inside.is_done b c.if-ends_before.self c.if-self.false
          c.self.invariant.1 maximal begins ends v.self-is
    ]

pub returns-clause-goes : goal.returns-clause-goes
returns-clause-goes g c = list_falls c.args.self.now c.if-ends_before.self
    (g.N.CidrNetwork.pair c.widest_block-block.result) c.widest_block-block.result (returns-clause-steps g c)
