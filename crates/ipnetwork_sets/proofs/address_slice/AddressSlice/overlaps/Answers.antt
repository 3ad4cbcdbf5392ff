use Rattle.ipnetwork_sets.proofs.Known.{◌↔◌, List, IsTrue, subst, Network, MeetsUnion}
use Rattle.ipnetwork_sets.proofs.address_slice.AddressSlice.overlaps.Goals as goal

pub returns : goal.returns
returns g c = subst (λ (t : List Network). IsTrue c.overlaps.result
    ↔ MeetsUnion g.N.CidrNetwork.WIDTH (g.N.CidrNetwork.pair c.args.network) t) c.self.view_is c.overlaps.ensures
