use Rattle.ipnetwork_c.proofs.Known.{map, firsts, ArePlacesUpTo}
use Rattle.ipnetwork_c.proofs.range_making.put_places.Given as goal

abbrev pub invariant-loop-row : goal.invariant-loop-row
invariant-loop-row g l = ArePlacesUpTo g.N.CidrNetwork.WIDTH (map g.H.HoldsNetwork.held l.blocks)
    (firsts g.H.HoldsNetwork.held l.ranges) l.places l.row
