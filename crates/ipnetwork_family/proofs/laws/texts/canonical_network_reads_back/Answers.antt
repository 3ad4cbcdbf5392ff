use Rattle.ipnetwork_family.proofs.Known.{canonical_reads}
use Rattle.ipnetwork_family.proofs.laws.texts.canonical_network_reads_back.Goals as goal

pub returns : goal.returns
returns g c = canonical_reads g.A.Address.family c.law_texts.ensures
