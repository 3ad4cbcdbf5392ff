use Rattle.ipnetwork_sets.proofs.Known.{◌↔◌, IsTrue, IfOk, List, subst, Network, LiesInUnion}
use Rattle.ipnetwork_sets.proofs.address_set.AddressSet.insert.Goals as goal

pub returns-clause-added : goal.returns-clause-added
returns-clause-added g c =
    subst (λ (l : List Network). IfOk c.insert.result (λ added. IsTrue added ↔ ¬ (LiesInUnion g.N.CidrNetwork.WIDTH
    (g.N.CidrNetwork.pair c.args.network) l))) c.self.view_is c.insert.ensures.added
