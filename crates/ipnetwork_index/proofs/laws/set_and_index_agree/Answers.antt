use Rattle.ipnetwork_index.proofs.Known.{◌↔◌, List, IsTrue, subst, one_answer, Network, InUnion}
use Rattle.ipnetwork_index.proofs.laws.set_and_index_agree.Goals as goal

pub returns-clause-agree : goal.returns-clause-agree
returns-clause-agree g c =
    one_answer c.contains.result c.contains-2.result c.contains.ensures
    (subst (λ (blocks : List Network). IsTrue c.contains-2.result
    ↔ InUnion g.N.CidrNetwork.WIDTH blocks (g.N.CidrNetwork.number c.args.addr))
    c.requires c.contains-2.ensures)
