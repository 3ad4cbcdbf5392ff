use Rattle.ipnetwork_c.proofs.Known.{◌≡◌, ◌+◌, ◌-◌, ◌≤◌, ℕ, List, length, map, take, refl, sym, subst, ap, ◌∙◌, arith, iff_false, length-map, length-take-le, take-map, SharesBits, Network, Member, block_at, read_map, IsTable, On, Nothing, slice_get_read, StandsAt, ComesTo, First, IsSplitAt, stands_split, none_fits, last_held, last_fits, last_does_not_fit, by_address, taken_ascends, search_begins, search_goes_on, search_finds, search_fails}
use Rattle.ipnetwork_c.specs.Searches.ComesTo.{On}
use Rattle.ipnetwork_c.proofs.tables.find.Goals as goal

pub loop-end-init : goal.loop-end-init
loop-end-init g c =
    let w : ℕ = g.N.CidrNetwork.WIDTH in
    let x : ℕ = g.N.CidrNetwork.number c.args.address in
    let ns : List Network = map g.H.HoldsNetwork.held c.args.blocks.now in
    let x_is : g.H.Numbered.value c.number_of.result ≡ x = c.number_of.ensures in
    record {
      within = c.upper_bound-end.ensures.within;
      searched = λ t. search_begins w ns x c.upper_bound-end.result t
          (subst (λ (y : ℕ). IsSplitAt ns y c.upper_bound-end.result c.upper_bound-end.result) x_is
          (stands_split ns (g.H.Numbered.value c.number_of.result) c.upper_bound-end.result
          c.upper_bound-end.ensures.stands (by_address w ns t)));
      comes = First c.upper_bound-end.result
          (subst (λ (y : ℕ). StandsAt ns y c.upper_bound-end.result) x_is c.upper_bound-end.ensures.stands);
      place = refl;
    }

pub returns-then-not-fits : goal.returns-then-not-fits
returns-then-not-fits g c =
    let w : ℕ = g.N.CidrNetwork.WIDTH in
    let ns : List Network = map g.H.HoldsNetwork.held c.args.blocks.now in
    let b : Network = g.H.HoldsNetwork.held c.index-blocks-end.result in
    let (within, is) = last_held g.H.HoldsNetwork.held c.args.blocks.now c.loop-end.end c.index-blocks-end.result
    (omega arith) c.loop-end.invariant.within c.index-blocks-end.is in
    let not = last_does_not_fit w ns c.loop-end.end b (omega arith) (omega arith) is (λ fits.
    iff_false c.fits.ensures c.if-not-fits.true ((g.met.H.Listed.fitting c.index-blocks-end.result).1 fits)) in
    (c.loop-end.end, c.loop-end.invariant.comes, Nothing (not, refl) c.loop-end.invariant.place)

pub returns-then-contains : goal.returns-then-contains
returns-then-contains g c =
    let w : ℕ = g.N.CidrNetwork.WIDTH in
    let ns : List Network = map g.H.HoldsNetwork.held c.args.blocks.now in
    let b : Network = g.H.HoldsNetwork.held c.index-blocks-end.result in
    let (within, is) = last_held g.H.HoldsNetwork.held c.args.blocks.now c.loop-end.end c.index-blocks-end.result
    (omega arith) c.loop-end.invariant.within c.index-blocks-end.is in
    let has : Member w b (g.N.CidrNetwork.number c.args.address) =
    rw c.held_network-block.ensures at (c.contains.ensures.0 c.if-contains.true) in
    let again : c.loop-end.end ≡ c.loop-end.end - 1 + 1 = omega arith in
    let fits = last_fits w ns c.loop-end.end b is
    ((g.met.H.Listed.fitting c.index-blocks-end.result).0 (c.fits.ensures.0 c.if-not-fits.false)) in
    let finds = search_finds w ns (g.N.CidrNetwork.number c.args.address) c.loop-end.end b c.loop-end.invariant.searched
    (omega arith) (omega arith) is has in
    (c.loop-end.end, c.loop-end.invariant.comes, On (fits, On (refl, (again, finds))))

pub loop-end-preserved : goal.loop-end-preserved
loop-end-preserved g c =
    let w : ℕ = g.N.CidrNetwork.WIDTH in
    let x : ℕ = g.N.CidrNetwork.number c.args.address in
    let ns : List Network = map g.H.HoldsNetwork.held c.args.blocks.now in
    let size = length-map c.args.blocks.now g.H.HoldsNetwork.held in
    let within = c.loop-end.invariant.within in
    let end : ℕ = c.loop-end.end in
    let next : ℕ = c.upper_bound-end-in-loop-end.result in
    let shared : ℕ = c.shared_bits-shared.result in
    let b : Network = g.H.HoldsNetwork.held c.index-blocks-end.result in
    let is = read_map g.H.HoldsNetwork.held c.args.blocks.now (end - 1) c.index-blocks-end.result (omega arith)
    c.index-blocks-end.is in
    let not : ¬ (Member w b x) = λ m. iff_false c.contains.ensures c.if-contains.false
    (rw (sym c.held_network-block.ensures) at m) in
    let address_is : g.N.CidrNetwork.number c.ip.result ≡ b.address = c.ip.ensures.made
    ∙ ap (λ (n : Network). n.address) c.held_network-block.ensures in
    let shares : SharesBits w b.address x shared =
    subst (λ (a : ℕ). SharesBits w a x shared) address_is c.shared_bits-shared.ensures in
    let y : ℕ = g.H.Numbered.value c.number_of-in-loop-end.result in
    let bound_is : y ≡ (block_at w x shared).address = c.number_of-in-loop-end.ensures ∙ c.ip-in-loop-end.ensures.made
    ∙ ap (λ (n : Network). n.address) c.block_at-around.ensures.made in
    let part : take (end - 1) ns ≡ map g.H.HoldsNetwork.held (take (end - 1) c.args.blocks.now) =
    take-map g.H.HoldsNetwork.held (end - 1) c.args.blocks.now in
    let most : length (take (end - 1) c.args.blocks.now) ≡ end - 1 =
    length-take-le (end - 1) c.args.blocks.now (omega arith) in
    let less : next ≤ end - 1 = omega (arith, most, c.upper_bound-end-in-loop-end.ensures.within) in
    let again : end ≡ end - 1 + 1 = omega arith in
    let stands : StandsAt (take (end - 1) ns) (block_at w x shared).address next =
    subst (λ (z : ℕ). StandsAt (take (end - 1) ns) z next) bound_is
    (subst (λ (l : List Network). StandsAt l y next) (sym part) c.upper_bound-end-in-loop-end.ensures.stands) in
    let split : IsTable w ns → IsSplitAt (take (end - 1) ns) (block_at w x shared).address next next = λ t.
    stands_split (take (end - 1) ns) (block_at w x shared).address next stands
    (taken_ascends ns (end - 1) (omega arith) (by_address w ns t)) in
    record {
      comes = On (end - 1) shared next b (subst (ComesTo w ns x) again c.loop-end.invariant.comes)
          (record {
            here = slice_get_read ns (length ns) (end - 1) b refl (omega arith) is;
            fits = (g.met.H.Listed.fitting c.index-blocks-end.result).0 (c.fits.ensures.0 c.if-not-fits.false);
            has_not = not;
          })
          shares stands;
      within = omega (arith, less);
      searched = λ t. search_goes_on w ns x end next shared b t (c.loop-end.invariant.searched t)
          c.block_at-around.ensures.address (omega arith) (omega arith) is not shares less (split t);
      place = c.loop-end.invariant.place;
    }

pub returns : goal.returns
returns g c =
    let none : c.loop-end.end ≡ 0 = omega arith in
    let w : ℕ = g.N.CidrNetwork.WIDTH in
    let ns : List Network = map g.H.HoldsNetwork.held c.args.blocks.now in
    let fails = search_fails w ns (g.N.CidrNetwork.number c.args.address) c.loop-end.end
    c.loop-end.invariant.searched none in (
      c.loop-end.end,
      c.loop-end.invariant.comes,
      On (none_fits w ns c.loop-end.end none, Nothing ((none, fails), refl) c.loop-end.invariant.place),
    )
