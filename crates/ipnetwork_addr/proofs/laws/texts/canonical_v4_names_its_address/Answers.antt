use Rattle.ipnetwork_addr.proofs.Known.{canonical_v4_names}
use Rattle.ipnetwork_addr.proofs.laws.texts.canonical_v4_names_its_address.Goals as goal

pub returns : goal.returns
returns c = canonical_v4_names
