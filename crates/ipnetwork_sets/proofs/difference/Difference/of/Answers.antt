use Rattle.ipnetwork_sets.proofs.Known.{map, difference_starts}
use Rattle.ipnetwork_sets.proofs.difference.Difference.of.Goals as goal

pub returns : goal.returns
returns g c = difference_starts g.N.CidrNetwork.WIDTH (map g.H.HoldsNetwork.held c.args.first.now)
    (map g.H.HoldsNetwork.held c.args.cut.now)
