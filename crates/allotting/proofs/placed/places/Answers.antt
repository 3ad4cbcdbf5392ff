use Rattle.allotting.proofs.Known.{◌∙◌, ◌+◌, InFirstAlone, List, IsPlacing, ap, arith, length, next_length, subst, sym, whole_again}
use Rattle.allotting.proofs.placed.places.Goals as goal

pub loop-prefix-preserved : goal.loop-prefix-preserved
loop-prefix-preserved g c =
    let old = c.loop-prefix.places.items in
    let new = c.place_length.new.places in
    let again = whole_again c.loop-prefix.places.len new old c.loop-prefix.places.ok.0
    (c.place_length.ensures.kept ∙ ap length c.as_mut_slice.ensures.value) in
    record {
      within = omega arith;
      placed = subst (λ (list : List _). IsPlacing g.N.CidrNetwork.pair g.N.CidrNetwork.WIDTH c.args.pool
          c.args.used.now (InFirstAlone g.N.CidrNetwork.WIDTH c.place_length.new.pool c.args.used.now)
          c.args.lengths.now list (c.loop-prefix.prefix + 1) 0) (sym again)
          (next_length g.N.CidrNetwork.pair g.N.CidrNetwork.WIDTH c.args.pool c.args.used.now c.args.lengths.now
          (InFirstAlone g.N.CidrNetwork.WIDTH c.place_length.new.pool c.args.used.now) new c.loop-prefix.prefix
          (c.in_ok-place_length.ensures.placed c.args.pool
          (rw c.as_mut_slice.ensures.value c.loop-prefix.invariant.placed)));
    }
