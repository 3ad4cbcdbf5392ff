use Rattle.ipnetwork_sets.proofs.Known.{less}
use Rattle.ipnetwork_sets.proofs.order.is_before.Goals as goal

pub returns : goal.returns
returns g c =
    less g.N.Addr.PartialOrd.partial_cmp g.N.Addr.Ord.cmp g.N.CidrNetwork.number g.met.N.Addr.Ord.matches_partial_cmp
    g.met.N.CidrNetwork.address_order c.args.first c.args.second c.lt.result c.lt.ensures
