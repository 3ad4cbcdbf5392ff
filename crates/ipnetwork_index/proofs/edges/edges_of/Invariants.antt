use Rattle.ipnetwork_index.proofs.Known.{◌≡◌, map, take, by_pair, edges_of}
use Rattle.ipnetwork_index.proofs.edges.edges_of.Given as goal

abbrev pub invariant-loop-entry : goal.invariant-loop-entry
invariant-loop-entry g l =
    map g.N.CidrNetwork.number l.edges.items ≡ edges_of g.N.CidrNetwork.WIDTH
    (by_pair g.N.CidrNetwork.pair (take l.entry-index l.entries))
