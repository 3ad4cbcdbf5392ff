use Rattle.ipnetwork_sets.proofs.Known.{◌↔◌, List, IsTrue, subst, Network, LiesInUnion}
use Rattle.ipnetwork_sets.proofs.address_slice.AddressSlice.covers.Goals as goal

pub returns : goal.returns
returns g c = subst (λ (t : List Network). IsTrue c.covers.result
    ↔ LiesInUnion g.N.CidrNetwork.WIDTH (g.N.CidrNetwork.pair c.args.network) t) c.self.view_is c.covers.ensures
