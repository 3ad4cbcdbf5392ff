use Rattle.ipnetwork_sets.proofs.Known.{◌↔◌, ℕ, List, IsTrue, subst, Network, AreDisjoint}
use Rattle.ipnetwork_sets.proofs.address_set.AddressSet.is_disjoint_from.Goals as goal

pub returns : goal.returns
returns g c =
    let w : ℕ = g.N.CidrNetwork.WIDTH in
    subst (λ (t : List Network). IsTrue c.is_disjoint_from.result ↔ AreDisjoint w c.args.self.now t)
    c.as_slice-2.ensures
    (subst (λ (s : List Network). IsTrue c.is_disjoint_from.result ↔ AreDisjoint w s c.as_slice-2.result)
    c.as_slice.ensures c.is_disjoint_from.ensures)
