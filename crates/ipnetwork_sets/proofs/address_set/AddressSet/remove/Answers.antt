use Rattle.ipnetwork_sets.proofs.Known.{◌↔◌, IsTrue, IfOk, List, subst, Network, MeetsUnion}
use Rattle.ipnetwork_sets.proofs.address_set.AddressSet.remove.Goals as goal

pub returns-clause-removed : goal.returns-clause-removed
returns-clause-removed g c =
    subst (λ (l : List Network). IfOk c.remove.result (λ removed. IsTrue removed ↔ MeetsUnion g.N.CidrNetwork.WIDTH
    (g.N.CidrNetwork.pair c.args.network) l)) c.self.view_is c.remove.ensures.removed
