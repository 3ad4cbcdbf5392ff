use Rattle.ipnetwork_addr.proofs.Known.{v6_unique}
use Rattle.ipnetwork_addr.proofs.laws.texts.v6_text_names_one.Goals as goal

pub returns : goal.returns
returns c = v6_unique
