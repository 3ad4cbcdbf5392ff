use Rattle.ipnetwork_index.proofs.Known.{length, by_pair, ArePlaces, KeepsOpen}
use Rattle.ipnetwork_index.proofs.sweep.close_before.Given as goal

abbrev pub invariant-closing : goal.invariant-closing
invariant-closing g l = record {
  places : ArePlaces (by_pair g.N.CidrNetwork.pair l.entries) l.opened.items;
  keeps : KeepsOpen g.N.CidrNetwork.WIDTH (by_pair g.N.CidrNetwork.pair l.entries)
      (g.N.CidrNetwork.number l.addr) l.initial.opened.items l.opened.items;
}

abbrev pub decreases-closing : goal.decreases-closing
decreases-closing g l = length l.opened.items
