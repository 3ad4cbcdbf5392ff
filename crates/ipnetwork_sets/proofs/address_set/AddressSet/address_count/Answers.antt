use Rattle.ipnetwork_sets.proofs.Known.{◌≤◌, List, subst, Network, InUnion, count_number, HasCount}
use Rattle.ipnetwork_sets.proofs.address_set.AddressSet.address_count.Goals as goal

pub returns : goal.returns
returns g c =
    subst (λ (s : List Network). g.N.CidrNetwork.WIDTH ≤ 128 → HasCount (InUnion g.N.CidrNetwork.WIDTH s)
    (count_number c.address_count.result)) c.as_slice.ensures c.address_count.ensures
