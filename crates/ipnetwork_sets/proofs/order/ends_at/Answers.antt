use Rattle.ipnetwork_sets.proofs.Known.{alike}
use Rattle.ipnetwork_sets.proofs.order.ends_at.Goals as goal

pub returns : goal.returns
returns g c = rw c.broadcast.ensures at
    (alike g.N.Addr.PartialEq.eq g.N.Addr.Ord.cmp g.N.CidrNetwork.number g.met.N.Addr.Ord.matches_eq
    g.met.N.CidrNetwork.address_order c.args.last c.broadcast.result c.eq.result c.eq.ensures)
