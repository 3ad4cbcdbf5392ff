use Rattle.ipnetwork_sets.proofs.Known.{map, take, AreJoined}
use Rattle.ipnetwork_sets.proofs.check.is_address_set.Given as goal

abbrev pub invariant-loop-next : goal.invariant-loop-next
invariant-loop-next g l = AreJoined g.N.CidrNetwork.WIDTH (take l.next (map g.H.HoldsNetwork.held l.list))
