use Rattle.ipnetwork_blocks.proofs.Known.{◌≡◌, ◌∙◌, arith, differ, differ_not, empty_mask}
use Rattle.ipnetwork_blocks.proofs.address_space.NetworkAddressSpace.previous_address.Goals as goal

pub previous-requires : goal.previous-requires
previous-requires g c =
    let first : g.A.Address.number c.mask.result ≡ 0 = c.mask.ensures ∙ empty_mask g.A.Address.WIDTH in
    omega (
      arith,
      differ g.A.PartialEq.eq g.A.Ord.cmp g.A.Address.number g.met.A.Ord.matches_eq
          g.met.A.Address.address_order c.args.addr c.mask.result c.ne.result c.ne.ensures c.if-ne.true,
    )

pub returns-then-ne : goal.returns-then-ne
returns-then-ne g c =
    let first : g.A.Address.number c.mask.result ≡ 0 = c.mask.ensures ∙ empty_mask g.A.Address.WIDTH in
    omega (
      arith,
      differ g.A.PartialEq.eq g.A.Ord.cmp g.A.Address.number g.met.A.Ord.matches_eq
          g.met.A.Address.address_order c.args.addr c.mask.result c.ne.result c.ne.ensures c.if-ne.true,
      c.previous.ensures,
    )

pub returns : goal.returns
returns g c = differ_not g.A.PartialEq.eq g.A.Ord.cmp g.A.Address.number g.met.A.Ord.matches_eq
    g.met.A.Address.address_order c.args.addr c.mask.result c.ne.result c.ne.ensures c.if-ne.false ∙ c.mask.ensures
    ∙ empty_mask g.A.Address.WIDTH
