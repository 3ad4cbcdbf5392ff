use Rattle.ipnetwork_sets.proofs.Known.{arith, at_most, not_at_most, first_begins, second_begins}
use Rattle.ipnetwork_sets.proofs.union.take_first.Goals as goal

pub returns-then-le : goal.returns-then-le
returns-then-le g c =
    let le = (at_most g.N.Addr.PartialOrd.partial_cmp g.N.Addr.Ord.cmp g.N.CidrNetwork.number
    g.met.N.Addr.Ord.matches_partial_cmp g.met.N.CidrNetwork.address_order
    c.ip.result c.ip-2.result c.le.result c.le.ensures).0 c.if-le.true in (
      first_begins _ _ _ _ _ _ c.in-Some.ensures.0 c.in-Some-split_held.ensures.0
          (omega (arith, le, c.ip.ensures.made, c.ip-2.ensures.made)),
      c.in-Some.ensures.1,
      c.requires.second,
    )

pub returns-else-le : goal.returns-else-le
returns-else-le g c =
    let behind = not_at_most g.N.Addr.PartialOrd.partial_cmp g.N.Addr.Ord.cmp g.N.CidrNetwork.number
    g.met.N.Addr.Ord.matches_partial_cmp g.met.N.CidrNetwork.address_order
    c.ip.result c.ip-2.result c.le.result c.le.ensures c.if-le.false in (
      second_begins _ _ _ _ _ _ c.in-Some.ensures.0 c.in-Some-split_held.ensures.0 (omega
          (arith, behind, c.ip.ensures.made, c.ip-2.ensures.made)),
      c.requires.first,
      c.in-Some-split_held.ensures.1,
    )
