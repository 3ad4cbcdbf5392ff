use Rattle.ipnetwork_index.proofs.Known.{None, map, Finds, AreAnsweredUpTo}
use Rattle.ipnetwork_index.proofs.route_index.RouteIndex.lookup_each.Given as goal

abbrev pub invariant-loop-place : goal.invariant-loop-place
invariant-loop-place g l =
    AreAnsweredUpTo (Finds g.N.CidrNetwork.pair g.N.CidrNetwork.WIDTH l.self) None
    (map g.N.CidrNetwork.number l.addrs) l.answers l.place
