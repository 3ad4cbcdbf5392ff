use Rattle.ipnetwork_addr.proofs.Known.{v4_bytes}
use Rattle.ipnetwork_addr.proofs.laws.texts.v4_text_bytes.Goals as goal

pub returns : goal.returns
returns c = v4_bytes
