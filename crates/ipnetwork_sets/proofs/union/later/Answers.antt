use Rattle.ipnetwork_sets.proofs.Known.{inl, inr, refl, arith, less, not_less}
use Rattle.ipnetwork_sets.proofs.union.later.Goals as goal

pub returns-then-lt : goal.returns-then-lt
returns-then-lt g c =
    let before = (less g.N.Addr.PartialOrd.partial_cmp g.N.Addr.Ord.cmp g.N.CidrNetwork.number
    g.met.N.Addr.Ord.matches_partial_cmp g.met.N.CidrNetwork.address_order
    c.args.first c.args.second c.lt.result c.lt.ensures).0 c.if-lt.true in
    record { first = omega arith; second = omega arith; one = inr refl }

pub returns-else-lt : goal.returns-else-lt
returns-else-lt g c =
    let not_before = not_less g.N.Addr.PartialOrd.partial_cmp g.N.Addr.Ord.cmp g.N.CidrNetwork.number
    g.met.N.Addr.Ord.matches_partial_cmp g.met.N.CidrNetwork.address_order
    c.args.first c.args.second c.lt.result c.lt.ensures c.if-lt.false in
    record { first = omega arith; second = omega arith; one = inl refl }
