use Rattle.ipnetwork_addr.proofs.Known.{v4_unique}
use Rattle.ipnetwork_addr.proofs.laws.texts.v4_text_names_one.Goals as goal

pub returns : goal.returns
returns c = v4_unique
