use Rattle.allotting.proofs.Known.{◌≡◌, ◌≤◌, ◌∙◌, ℕ, List, Network, IsFilling, InPoolAlone, IsPlacing, ap, arith, filling_starts, length, map, subst, refl}
use Rattle.allotting.proofs.placed.fill_places.Goals as goal

pub loop-at-init : goal.loop-at-init
loop-at-init g c = record {
  kept = refl;
  within = omega arith;
  filling = λ first h. filling_starts g.N.CidrNetwork.pair g.N.CidrNetwork.WIDTH first c.args.used.now
      c.args.lengths.now c.args.pool.now (map g.N.CidrNetwork.pair c.new-taken.result.items) c.free_blocks-blocks.result
      c.args.places.now c.args.prefix (ap (map g.N.CidrNetwork.pair) c.new-taken.ensures.items)
      c.free_blocks-blocks.ensures h;
}

pub loop-at-preserved : goal.loop-at-preserved
loop-at-preserved g c = record {
  kept = c.fill_place.ensures.kept ∙ c.loop-at.invariant.kept;
  within = omega arith;
  filling = λ first h. c.in_ok-fill_place.ensures.filled first c.args.pool.now c.args.used.now
      (c.loop-at.invariant.filling first h);
}

pub returns-clause-placed : goal.returns-clause-placed
returns-clause-placed g c = λ first h.
    let all : c.loop-at.at ≡ length c.args.lengths.now = omega arith in
    subst (λ (i : ℕ). IsPlacing g.N.CidrNetwork.pair g.N.CidrNetwork.WIDTH first c.args.used.now
    (InPoolAlone g.N.CidrNetwork.WIDTH c.args.pool.now c.args.used.now (map g.N.CidrNetwork.pair c.loop-at.taken.items))
    c.args.lengths.now c.loop-at.places c.args.prefix i) all (c.loop-at.invariant.filling first h).placing
