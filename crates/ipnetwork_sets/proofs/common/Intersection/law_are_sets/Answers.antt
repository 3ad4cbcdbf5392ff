use Rattle.ipnetwork_sets.proofs.Known.{List, map, subst, Network, IsAddressSet, common_is_set}
use Rattle.ipnetwork_sets.proofs.common.Intersection.law_are_sets.Goals as goal

pub returns : goal.returns
returns g c = subst (λ (t : List Network). IsAddressSet g.N.CidrNetwork.WIDTH t) c.self.view_is
    (common_is_set g.N.CidrNetwork.WIDTH (map g.H.HoldsNetwork.held c.self.inside.first.now)
    (map g.H.HoldsNetwork.held c.self.inside.second.now))
