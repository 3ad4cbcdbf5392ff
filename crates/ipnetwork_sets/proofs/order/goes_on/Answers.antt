use Rattle.ipnetwork_sets.proofs.Known.{arith, at_most, not_at_most}
use Rattle.ipnetwork_sets.proofs.order.goes_on.Goals as goal

pub returns-then-le : goal.returns-then-le
returns-then-le g c =
    let fits = (at_most g.N.Addr.PartialOrd.partial_cmp g.N.Addr.Ord.cmp g.N.CidrNetwork.number
    g.met.N.Addr.Ord.matches_partial_cmp g.met.N.CidrNetwork.address_order
    c.ip.result c.args.last c.le.result c.le.ensures).0 c.if-le.true in
    ((λ t. omega (arith, c.ip.ensures.made)), (λ t. c.if-le.true))

pub returns-else-le : goal.returns-else-le
returns-else-le g c =
    let behind = not_at_most g.N.Addr.PartialOrd.partial_cmp g.N.Addr.Ord.cmp g.N.CidrNetwork.number
    g.met.N.Addr.Ord.matches_partial_cmp g.met.N.CidrNetwork.address_order
    c.ip.result c.args.last c.le.result c.le.ensures c.if-le.false in (
      (λ t. let next = c.begins_behind.ensures.0 t in omega arith),
      (λ t. c.begins_behind.ensures.1 (omega (arith, c.ip.ensures.made))),
    )
