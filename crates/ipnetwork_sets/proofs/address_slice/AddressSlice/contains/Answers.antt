use Rattle.ipnetwork_sets.proofs.Known.{◌↔◌, List, IsTrue, subst, Network, InUnion}
use Rattle.ipnetwork_sets.proofs.address_slice.AddressSlice.contains.Goals as goal

pub returns : goal.returns
returns g c = subst (λ (t : List Network). IsTrue c.contains.result
    ↔ InUnion g.N.CidrNetwork.WIDTH t (g.N.CidrNetwork.number c.args.addr)) c.self.view_is c.contains.ensures
