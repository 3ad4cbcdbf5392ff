use Rattle.ipnetwork_c.proofs.Known.{◌≡◌, ◌≤◌, length, map, ComesTo, IsTable, IsSearched}
use Rattle.ipnetwork_c.proofs.tables.find.Given as goal

abbrev pub invariant-loop-end : goal.invariant-loop-end
invariant-loop-end g l = record {
  within : l.end ≤ length l.blocks;
  searched : IsTable g.N.CidrNetwork.WIDTH (map g.H.HoldsNetwork.held l.blocks)
      → IsSearched g.N.CidrNetwork.WIDTH (map g.H.HoldsNetwork.held l.blocks) (g.N.CidrNetwork.number l.address) l.end;
  comes : ComesTo g.N.CidrNetwork.WIDTH (map g.H.HoldsNetwork.held l.blocks) (g.N.CidrNetwork.number l.address) l.end;
  place : l.place ≡ l.initial.place;
}

abbrev pub decreases-loop-end : goal.decreases-loop-end
decreases-loop-end g l = l.end
