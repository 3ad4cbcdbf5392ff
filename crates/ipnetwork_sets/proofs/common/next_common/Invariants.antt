use Rattle.ipnetwork_sets.proofs.Known.{◌≡◌, ◌+◌, length, map, HoldSet, common_blocks}
use Rattle.ipnetwork_sets.proofs.common.next_common.Given as goal

abbrev pub invariant-loop-one : goal.invariant-loop-one
invariant-loop-one g l = record {
  first : HoldSet g.N.CidrNetwork.WIDTH g.H.HoldsNetwork.holds g.H.HoldsNetwork.held l.first;
  second : HoldSet g.N.CidrNetwork.WIDTH g.H.HoldsNetwork.holds g.H.HoldsNetwork.held l.second;
  same : common_blocks g.N.CidrNetwork.WIDTH (map g.H.HoldsNetwork.held l.initial.first)
      (map g.H.HoldsNetwork.held l.initial.second)
      ≡ common_blocks g.N.CidrNetwork.WIDTH (map g.H.HoldsNetwork.held l.first) (map g.H.HoldsNetwork.held l.second);
}

abbrev pub decreases-loop-one : goal.decreases-loop-one
decreases-loop-one g l = length l.first + length l.second
