use Rattle.ipnetwork_addr.proofs.Known.{canonical_v6_is_only}
use Rattle.ipnetwork_addr.proofs.laws.texts.canonical_v6_is_one_text.Goals as goal

pub returns : goal.returns
returns c = canonical_v6_is_only
