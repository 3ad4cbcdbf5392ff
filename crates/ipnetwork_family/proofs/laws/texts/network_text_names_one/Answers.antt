use Rattle.ipnetwork_family.proofs.Known.{names_one}
use Rattle.ipnetwork_family.proofs.laws.texts.network_text_names_one.Goals as goal

pub returns : goal.returns
returns g c = names_one g.A.Address.family c.law_texts.ensures
