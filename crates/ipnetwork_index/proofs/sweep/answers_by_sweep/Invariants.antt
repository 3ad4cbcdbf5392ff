use Rattle.ipnetwork_index.proofs.Known.{map, by_pair, AreSwept, OpenFrom}
use Rattle.ipnetwork_index.proofs.sweep.answers_by_sweep.Given as goal

abbrev pub invariant-loop-last : goal.invariant-loop-last
invariant-loop-last g l = record {
  from : OpenFrom g.N.CidrNetwork.WIDTH (by_pair g.N.CidrNetwork.pair l.entries)
      (map g.N.CidrNetwork.number l.lasts) l.last-index l.count l.opened.items;
  swept : AreSwept g.N.CidrNetwork.WIDTH (by_pair g.N.CidrNetwork.pair l.entries)
      (map g.N.CidrNetwork.number l.lasts) l.prefixes.items l.values.items l.last-index;
}
