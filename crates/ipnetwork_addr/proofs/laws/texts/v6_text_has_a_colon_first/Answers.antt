use Rattle.ipnetwork_addr.proofs.Known.{v6_colon_first}
use Rattle.ipnetwork_addr.proofs.laws.texts.v6_text_has_a_colon_first.Goals as goal

pub returns : goal.returns
returns c = v6_colon_first
