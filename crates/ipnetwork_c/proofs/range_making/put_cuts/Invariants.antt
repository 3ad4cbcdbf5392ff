use Rattle.ipnetwork_c.proofs.Known.{map, take, AreCutsOf, IsWrittenUpTo}
use Rattle.ipnetwork_c.proofs.range_making.put_cuts.Given as goal

abbrev pub invariant-loop-row : goal.invariant-loop-row
invariant-loop-row g l = record {
  written : IsWrittenUpTo l.initial.ranges l.ranges l.count;
  cuts : AreCutsOf g.N.CidrNetwork.WIDTH g.H.HoldsNetwork.holds g.H.HoldsNetwork.held
      (map g.H.HoldsNetwork.held l.blocks) l.row (take l.count l.ranges);
}
