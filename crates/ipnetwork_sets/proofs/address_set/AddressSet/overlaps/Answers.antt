use Rattle.ipnetwork_sets.proofs.Known.{◌≡◌, ◌↔◌, List, IsTrue, map, subst, ap, ◌∙◌, Network, MeetsUnion}
use Rattle.ipnetwork_sets.proofs.address_set.AddressSet.overlaps.Goals as goal

pub returns : goal.returns
returns g c =
    let is : map g.N.CidrNetwork.pair c.as_slice.result.now ≡ c.args.self.now =
    ap (map g.N.CidrNetwork.pair) c.as_slice.ensures.value ∙ c.self.view_is in
    subst (λ (t : List Network). IsTrue c.overlaps.result
    ↔ MeetsUnion g.N.CidrNetwork.WIDTH (g.N.CidrNetwork.pair c.args.network) t) is c.overlaps.ensures
