use Rattle.ipnetwork_index.proofs.Known.{false, map, AreAnsweredUpTo, IsTold}
use Rattle.ipnetwork_index.proofs.address_index.AddressIndex.contains_each.Given as goal

abbrev pub invariant-loop-place : goal.invariant-loop-place
invariant-loop-place g l =
    AreAnsweredUpTo (IsTold g.N.CidrNetwork.WIDTH l.self) false (map g.N.CidrNetwork.number l.addrs)
    l.answers l.place
