use Rattle.ipnetwork_sets.proofs.Known.{◌+◌, length, map, All, low, IsGrowing}
use Rattle.ipnetwork_sets.proofs.union.next_run.Given as goal

abbrev pub invariant-loop-next : goal.invariant-loop-next
invariant-loop-next g l = record {
  grows : IsGrowing g.N.CidrNetwork.WIDTH (map g.H.HoldsNetwork.held l.fn.first) (map g.H.HoldsNetwork.held l.fn.second)
      (low g.N.CidrNetwork.WIDTH (g.N.CidrNetwork.pair l.start)) (g.N.CidrNetwork.number l.last)
      (map g.H.HoldsNetwork.held l.first_left) (map g.H.HoldsNetwork.held l.second_left);
  first : All g.H.HoldsNetwork.holds l.first_left;
  second : All g.H.HoldsNetwork.holds l.second_left;
}

abbrev pub decreases-loop-next : goal.decreases-loop-next
decreases-loop-next g l = length l.first_left + length l.second_left
