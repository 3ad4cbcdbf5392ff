use Rattle.ipnetwork_addr.proofs.Known.{ip_unique}
use Rattle.ipnetwork_addr.proofs.laws.texts.ip_text_names_one.Goals as goal

pub returns : goal.returns
returns c = ip_unique
