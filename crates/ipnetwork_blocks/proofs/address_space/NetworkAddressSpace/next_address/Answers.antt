use Rattle.ipnetwork_blocks.proofs.Known.{◌≡◌, ◌-◌, ◌^◌, ap, ◌∙◌, arith, mask_of, differ, differ_not, full_mask}
use Rattle.ipnetwork_blocks.proofs.address_space.NetworkAddressSpace.next_address.Goals as goal

pub next-requires : goal.next-requires
next-requires g c =
    let last : g.A.Address.number c.mask.result ≡ 2 ^ g.A.Address.WIDTH - 1 = c.mask.ensures
    ∙ ap (mask_of g.A.Address.WIDTH) c.WIDTH.ensures ∙ full_mask g.A.Address.WIDTH in
    omega (
      arith,
      differ g.A.PartialEq.eq g.A.Ord.cmp g.A.Address.number g.met.A.Ord.matches_eq
          g.met.A.Address.address_order c.args.addr c.mask.result c.ne.result c.ne.ensures c.if-ne.true,
      c.law_of_width.ensures,
    )

pub returns-then-ne : goal.returns-then-ne
returns-then-ne g c =
    let last : g.A.Address.number c.mask.result ≡ 2 ^ g.A.Address.WIDTH - 1 = c.mask.ensures
    ∙ ap (mask_of g.A.Address.WIDTH) c.WIDTH.ensures ∙ full_mask g.A.Address.WIDTH in (
      omega (
        arith,
        differ g.A.PartialEq.eq g.A.Ord.cmp g.A.Address.number g.met.A.Ord.matches_eq
            g.met.A.Address.address_order c.args.addr c.mask.result c.ne.result c.ne.ensures c.if-ne.true,
        c.law_of_width.ensures,
      ),
      c.next.ensures,
    )

pub returns : goal.returns
returns g c =
    let last : g.A.Address.number c.mask.result ≡ 2 ^ g.A.Address.WIDTH - 1 = c.mask.ensures
    ∙ ap (mask_of g.A.Address.WIDTH) c.WIDTH.ensures ∙ full_mask g.A.Address.WIDTH in
    omega (
      arith,
      differ_not g.A.PartialEq.eq g.A.Ord.cmp g.A.Address.number g.met.A.Ord.matches_eq
          g.met.A.Address.address_order c.args.addr c.mask.result c.ne.result c.ne.ensures c.if-ne.false,
      c.law_of_width.ensures,
    )
