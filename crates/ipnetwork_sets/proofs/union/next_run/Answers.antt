use Rattle.ipnetwork_sets.proofs.Known.{ℕ, map, sym, subst, low, IsGrowing, IsLater, first_is_block, growing_starts, grows_by_first, grows_by_second, growing_ends}
use Rattle.ipnetwork_sets.proofs.union.next_run.Goals as goal

pub loop-next-init : goal.loop-next-init
loop-next-init g c =
    let w : ℕ = g.N.CidrNetwork.WIDTH in
    let first = map g.H.HoldsNetwork.held c.args.first.now in
    let second = map g.H.HoldsNetwork.held c.args.second.now in
    let b = g.N.CidrNetwork.pair c.in-Some.taken.0 in
    let others = map g.H.HoldsNetwork.held c.in-Some.taken.1.now in
    let rest = map g.H.HoldsNetwork.held c.in-Some.taken.2.now in
    record {
      grows = subst (λ (k : ℕ). IsGrowing w first second (low w b) k others rest) (sym c.broadcast-last.ensures)
          (growing_starts w c.one_block.ensures.apart first second b others rest c.requires.first.1 c.requires.second.1
          c.in-Some.ensures.0);
      first = c.in-Some.ensures.1;
      second = c.in-Some.ensures.2;
    }

pub loop-next-preserved-in-Some-take_next : goal.loop-next-preserved-in-Some-take_next
loop-next-preserved-in-Some-take_next g c =
    let w : ℕ = g.N.CidrNetwork.WIDTH in
    let last : ℕ = g.N.CidrNetwork.number c.loop-next.last in
    let next : ℕ = g.N.CidrNetwork.number c.later-last.result in
    record {
      grows = grows_by_first w c.one_block.ensures.apart _ _ _ last next
          (g.N.CidrNetwork.pair c.in-Some-take_next.next.0) _ _ c.loop-next.invariant.grows
          c.in-Some-take_next.ensures.1 (subst (λ (k : ℕ). IsLater last k next) c.broadcast.ensures
          c.later-last.ensures) _ c.in-Some-take_next.ensures.0;
      first = c.in-Some-take_next.ensures.2;
      second = c.loop-next.invariant.second;
    }

pub loop-next-preserved : goal.loop-next-preserved
loop-next-preserved g c =
    let w : ℕ = g.N.CidrNetwork.WIDTH in
    let last : ℕ = g.N.CidrNetwork.number c.loop-next.last in
    let next : ℕ = g.N.CidrNetwork.number c.later-last-in-Some-take_next-2.result in
    record {
      grows = grows_by_second w c.one_block.ensures.apart _ _ _ last next
          (g.N.CidrNetwork.pair c.in-Some-take_next-2.next.0) _ _ c.loop-next.invariant.grows
          c.in-Some-take_next-2.ensures.1
          (subst (λ (k : ℕ). IsLater last k next) c.broadcast-in-Some-take_next-2.ensures
          c.later-last-in-Some-take_next-2.ensures) _ c.in-Some-take_next-2.ensures.0;
      first = c.loop-next.invariant.first;
      second = c.in-Some-take_next-2.ensures.2;
    }

pub returns-in_default-take_next-2 : goal.returns-in_default-take_next-2
returns-in_default-take_next-2 g c =
    let w : ℕ = g.N.CidrNetwork.WIDTH in (
      first_is_block w _ _ _ _ _ c.requires.first.1 c.requires.second.1 c.in-Some.ensures.0,
      growing_ends w c.one_block.ensures.apart _ _ _ _ _ _ c.loop-next.invariant.grows c.in_default-take_next.ensures
          c.in_default-take_next-2.ensures,
      c.loop-next.invariant.first,
      c.loop-next.invariant.second,
    )
