use Rattle.ipnetwork_family.proofs.Known.{canonical_differs}
use Rattle.ipnetwork_family.proofs.laws.texts.canonical_network_is_one_to_one.Goals as goal

pub returns : goal.returns
returns g c = canonical_differs g.A.Address.family c.law_texts.ensures
