use Rattle.ipnetwork_addr.proofs.Known.{canonical_v6_names}
use Rattle.ipnetwork_addr.proofs.laws.texts.canonical_v6_names_its_address.Goals as goal

pub returns : goal.returns
returns c = canonical_v6_names
