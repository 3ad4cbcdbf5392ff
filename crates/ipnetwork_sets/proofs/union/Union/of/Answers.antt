use Rattle.ipnetwork_sets.proofs.Known.{map, either_is_least, either_is_set}
use Rattle.ipnetwork_sets.proofs.union.Union.of.Goals as goal

pub invariant_of-result : goal.invariant_of-result
invariant_of-result g c = (
  c.requires.first,
  c.requires.second,
  either_is_set g.N.CidrNetwork.WIDTH (map g.H.HoldsNetwork.held c.args.first.now)
      (map g.H.HoldsNetwork.held c.args.second.now),
)

pub returns : goal.returns
returns g c = either_is_least g.N.CidrNetwork.WIDTH (map g.H.HoldsNetwork.held c.args.first.now)
    (map g.H.HoldsNetwork.held c.args.second.now)
