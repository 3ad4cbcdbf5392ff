use Rattle.ipnetwork_sets.proofs.Known.{length, map, Member, HoldSet, Skips}
use Rattle.ipnetwork_sets.proofs.free_range.first_free_range.Given as goal

abbrev pub invariant-loop-taken : goal.invariant-loop-taken
invariant-loop-taken g l = record {
  set : HoldSet g.N.CidrNetwork.WIDTH g.H.HoldsNetwork.holds g.H.HoldsNetwork.held l.left;
  inside : Member g.N.CidrNetwork.WIDTH (g.N.CidrNetwork.pair l.fn.whole) (g.N.CidrNetwork.number l.at);
  skips : Skips g.N.CidrNetwork.WIDTH (g.N.CidrNetwork.pair l.fn.whole) (g.N.CidrNetwork.number l.fn.from)
      (map g.H.HoldsNetwork.held l.initial.left) (g.N.CidrNetwork.number l.at) (map g.H.HoldsNetwork.held l.left);
}

abbrev pub decreases-loop-taken : goal.decreases-loop-taken
decreases-loop-taken g l = length l.left
