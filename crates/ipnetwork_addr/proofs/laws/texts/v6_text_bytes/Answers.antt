use Rattle.ipnetwork_addr.proofs.Known.{v6_bytes}
use Rattle.ipnetwork_addr.proofs.laws.texts.v6_text_bytes.Goals as goal

pub returns : goal.returns
returns c = v6_bytes
