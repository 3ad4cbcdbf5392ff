use Rattle.ipnetwork_index.proofs.Known.{◌-◌, length, by_pair, AreOpen}
use Rattle.ipnetwork_index.proofs.sweep.open_up_to.Given as goal

abbrev pub invariant-opening : goal.invariant-opening
invariant-opening g l =
    AreOpen g.N.CidrNetwork.WIDTH (by_pair g.N.CidrNetwork.pair l.entries) l.at
    (g.N.CidrNetwork.number l.addr) l.opened.items

abbrev pub decreases-opening : goal.decreases-opening
decreases-opening g l = length l.entries - l.at
