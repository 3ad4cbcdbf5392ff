use Rattle.ipnetwork_addr.proofs.Known.{v4_dot_first}
use Rattle.ipnetwork_addr.proofs.laws.texts.v4_text_has_a_dot_first.Goals as goal

pub returns : goal.returns
returns c = v4_dot_first
