use Rattle.ipnetwork_family.proofs.Known.{canonical_names}
use Rattle.ipnetwork_family.proofs.laws.texts.canonical_network_names_it.Goals as goal

pub returns : goal.returns
returns g c = canonical_names g.A.Address.family c.law_texts.ensures
