use Rattle.ipnetwork_family.proofs.Known.{canonical_bytes}
use Rattle.ipnetwork_family.proofs.laws.texts.canonical_network_bytes.Goals as goal

pub returns : goal.returns
returns g c = canonical_bytes g.A.Address.family c.law_texts.ensures g.met.A.Address.few_bits
