use Rattle.ipnetwork_sets.proofs.Known.{map, common_is_least}
use Rattle.ipnetwork_sets.proofs.common.Intersection.of.Goals as goal

pub returns : goal.returns
returns g c = common_is_least g.N.CidrNetwork.WIDTH (map g.H.HoldsNetwork.held c.args.first.now)
    (map g.H.HoldsNetwork.held c.args.second.now)
