use Rattle.ipnetwork_sets.proofs.Known.{List, map, subst, option_map, Network, IsAddressSet}
use Rattle.ipnetwork_sets.proofs.SetLaws.{left_is_set}
use Rattle.ipnetwork_sets.proofs.difference.Difference.law_are_sets.Goals as goal

pub returns : goal.returns
returns g c = subst (λ (t : List Network). IsAddressSet g.N.CidrNetwork.WIDTH t) c.self.view_is (left_is_set
    g.N.CidrNetwork.WIDTH (option_map (λ p. (g.N.CidrNetwork.pair p.whole, (g.N.CidrNetwork.pair p.next).address))
    c.self.inside.at_hand) (map g.H.HoldsNetwork.held c.self.inside.rest.now)
    (map g.H.HoldsNetwork.held c.self.inside.cut.now))
