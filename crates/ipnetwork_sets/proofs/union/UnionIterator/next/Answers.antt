use Rattle.ipnetwork_sets.proofs.Known.{◌≡◌, ◌++◌, [], ◌∷◌, ℕ, List, Some, map, refl, sym, ap, ◌∙◌, Network, low, either_blocks, at_hand, either_none, goes_within, one_is_range, range_of, next_is_set, next_steps, next_goes}
use Rattle.ipnetwork_sets.proofs.union.UnionIterator.next.Goals as goal

pub invariant_of-self : goal.invariant_of-self
invariant_of-self g c =
    let w : ℕ = g.N.CidrNetwork.WIDTH in
    let rest : List Network = either_blocks w (map g.H.HoldsNetwork.held c.self.inside.first.now)
    (map g.H.HoldsNetwork.held c.self.inside.second.now) in (
      c.self.invariant.0,
      c.self.invariant.1,
      goes_within w (at_hand c.self.inside.run) (at_hand c.next_at_hand.new.run) rest
          (g.N.CidrNetwork.pair c.in-Some.block) c.one_block.ensures.apart c.self.invariant.2 c.in-Some.ensures,
    )

pub returns-in_default-next_run-clause-steps : goal.returns-in_default-next_run-clause-steps
returns-in_default-next_run-clause-steps g c =
    let w : ℕ = g.N.CidrNetwork.WIDTH in
    let first : List Network = map g.H.HoldsNetwork.held c.self.inside.first.now in
    let second : List Network = map g.H.HoldsNetwork.held c.self.inside.second.now in
    let none : either_blocks w first second ≡ [] =
    either_none w first second c.in_default-next_run.ensures.0 c.in_default-next_run.ensures.1 in (
      sym c.self.view_is ∙ ap (λ t. t ++ either_blocks w first second) c.in_default.ensures.0 ∙ none,
      ap (λ t. t ++ either_blocks w first second) c.in_default.ensures.1 ∙ none,
    )

pub invariant_of-self-2 : goal.invariant_of-self-2
invariant_of-self-2 g c =
    let w : ℕ = g.N.CidrNetwork.WIDTH in
    let pair = g.N.CidrNetwork.pair in
    let held = g.H.HoldsNetwork.held in
    let run = c.in-Some-next_run.found in
    let h = c.in-Some-next_run.ensures.1 in (
      (c.in-Some-next_run.ensures.2, h.grown.others_are_set),
      (c.in-Some-next_run.ensures.3, h.grown.rest_is_set),
      next_is_set w pair _ _ _ _ c.args.self.now (at_hand c.self.inside.run)
          (low w (pair run.0)) (g.N.CidrNetwork.number run.1) c.range_to_blocks-self-inside.result
          (at_hand c.next_at_hand-2.new.run) c.one_block.ensures.apart c.ranges_are_shortest.ensures.range
          c.self.view_is c.in_default.ensures.0 c.self.invariant.2 h
          (range_of w (g.N.CidrNetwork.number c.network.result) (low w (pair run.0)) (g.N.CidrNetwork.number run.1)
          c.range_to_blocks-self-inside.result
          c.network.ensures c.range_to_blocks-self-inside.ensures.blocks)
          c.next_at_hand-2.result c.next_at_hand-2.ensures,
    )

pub returns : goal.returns
returns g c =
    let w : ℕ = g.N.CidrNetwork.WIDTH in
    let pair = g.N.CidrNetwork.pair in
    let run = c.in-Some-next_run.found in
    let range = range_of w (g.N.CidrNetwork.number c.network.result) (low w (pair run.0)) (g.N.CidrNetwork.number run.1)
    c.range_to_blocks-self-inside.result
    c.network.ensures c.range_to_blocks-self-inside.ensures.blocks in
    record {
      steps = next_steps w pair _ _ _ _ c.args.self.now (at_hand c.self.inside.run) (low w (pair run.0))
          (g.N.CidrNetwork.number run.1) c.range_to_blocks-self-inside.result (at_hand c.next_at_hand-2.new.run)
          c.one_block.ensures.apart c.ranges_are_shortest.ensures.range c.self.view_is c.in_default.ensures.0
          c.self.invariant.2 c.in-Some-next_run.ensures.1 range c.next_at_hand-2.result c.next_at_hand-2.ensures;
      goes = next_goes w pair _ _ _ _ c.args.self.now (at_hand c.self.inside.run) (low w (pair run.0))
          (g.N.CidrNetwork.number run.1) c.range_to_blocks-self-inside.result (at_hand c.next_at_hand-2.new.run)
          c.one_block.ensures.apart c.ranges_are_shortest.ensures.range c.self.view_is c.in_default.ensures.0
          c.self.invariant.2 c.in-Some-next_run.ensures.1 range c.next_at_hand-2.result c.next_at_hand-2.ensures;
    }

pub invariant_of-self-then-ends_at : goal.invariant_of-self-then-ends_at
invariant_of-self-then-ends_at g c =
    let w : ℕ = g.N.CidrNetwork.WIDTH in
    let pair = g.N.CidrNetwork.pair in
    let held = g.H.HoldsNetwork.held in
    let run = c.in-Some-next_run.found in
    let last : ℕ = g.N.CidrNetwork.number run.1 in
    let h = c.in-Some-next_run.ensures in (
      (h.2, h.1.grown.others_are_set),
      (h.3, h.1.grown.rest_is_set),
      next_is_set w pair _ _ _ _ c.args.self.now (at_hand c.self.inside.run)
          (low w (pair run.0)) last (Some (pair run.0 ∷ [])) [] c.one_block.ensures.apart
          c.ranges_are_shortest.ensures.range
          c.self.view_is c.in_default.ensures.0 c.self.invariant.2 h.1
          (one_is_range w (pair run.0) last h.0 (c.ends_at.ensures.0 c.if-ends_at.true)) (Some run.0) refl,
    )

pub returns-then-ends_at : goal.returns-then-ends_at
returns-then-ends_at g c =
    let w : ℕ = g.N.CidrNetwork.WIDTH in
    let pair = g.N.CidrNetwork.pair in
    let run = c.in-Some-next_run.found in
    let last : ℕ = g.N.CidrNetwork.number run.1 in
    let h = c.in-Some-next_run.ensures in
    let range = one_is_range w (pair run.0) last h.0 (c.ends_at.ensures.0 c.if-ends_at.true) in
    record {
      steps = next_steps w pair _ _ _ _ c.args.self.now (at_hand c.self.inside.run) (low w (pair run.0)) last
          (Some (pair run.0 ∷ [])) []
          c.one_block.ensures.apart c.ranges_are_shortest.ensures.range c.self.view_is c.in_default.ensures.0
          c.self.invariant.2 h.1 range (Some run.0) refl;
      goes = next_goes w pair _ _ _ _ c.args.self.now (at_hand c.self.inside.run) (low w (pair run.0)) last
          (Some (pair run.0 ∷ [])) []
          c.one_block.ensures.apart c.ranges_are_shortest.ensures.range c.self.view_is c.in_default.ensures.0
          c.self.invariant.2 h.1 range (Some run.0) refl;
    }
