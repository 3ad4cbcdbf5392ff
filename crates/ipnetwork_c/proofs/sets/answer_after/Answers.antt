use Rattle.ipnetwork_c.proofs.Known.{◌-◌, ℕ, List, map, subst, arith, iff_false, length-map, Network, read_map, IsSplitAt, weakly, stands_split, finds_none, finds_last, none_fits, last_fits, last_does_not_fit}
use Rattle.ipnetwork_c.proofs.sets.answer_after.Goals as goal

pub returns-then-count-eq0 : goal.returns-then-count-eq0
returns-then-count-eq0 g c =
    let w : ℕ = g.N.CidrNetwork.WIDTH in
    let ns : List Network = map g.H.HoldsNetwork.held c.args.list.now in
    let x : ℕ = g.H.Numbered.value c.args.number in
    let none = c.if-count-eq0.true in (
      (c.args.count, c.requires, none_fits w ns c.args.count none),
      finds_none w ns x c.one_block.ensures.one
          (λ up. subst (λ (i : ℕ). IsSplitAt ns x i i) none (stands_split ns x c.args.count c.requires (weakly ns up))),
    )

pub returns-then-not-fits : goal.returns-then-not-fits
returns-then-not-fits g c =
    let ns : List Network = map g.H.HoldsNetwork.held c.args.list.now in
    let size = length-map c.args.list.now g.H.HoldsNetwork.held in
    let last : Network = g.H.HoldsNetwork.held c.index-list-count.result in
    let is = read_map g.H.HoldsNetwork.held c.args.list.now (c.args.count - 1) c.index-list-count.result
    (omega (arith, size, c.requires.within)) c.index-list-count.is in
    let not = last_does_not_fit g.N.CidrNetwork.WIDTH ns c.args.count last (omega arith) c.requires.within is (λ fits.
    iff_false c.fits.ensures c.if-not-fits.true ((g.met.H.Listed.fitting c.index-list-count.result).1 fits)) in
    (c.args.count, c.requires, not)

pub returns : goal.returns
returns g c =
    let w : ℕ = g.N.CidrNetwork.WIDTH in
    let ns : List Network = map g.H.HoldsNetwork.held c.args.list.now in
    let x : ℕ = g.H.Numbered.value c.args.number in
    let size = length-map c.args.list.now g.H.HoldsNetwork.held in
    let last : Network = g.H.HoldsNetwork.held c.index-list-count.result in
    let is = read_map g.H.HoldsNetwork.held c.args.list.now (c.args.count - 1) c.index-list-count.result
    (omega (arith, size, c.requires.within)) c.index-list-count.is in (
      (
        c.args.count,
        c.requires,
        last_fits w ns c.args.count last is
            ((g.met.H.Listed.fitting c.index-list-count.result).0 (c.fits.ensures.0 c.if-not-fits.false)),
      ),
      finds_last w ns x c.args.count last c.has.result c.from.result c.one_block.ensures.one
          (λ up. stands_split ns x c.args.count c.requires (weakly ns up)) (omega arith) c.requires.within is
          c.has.ensures c.from.ensures,
    )
