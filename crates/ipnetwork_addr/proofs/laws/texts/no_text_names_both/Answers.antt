use Rattle.ipnetwork_addr.proofs.Known.{not_both}
use Rattle.ipnetwork_addr.proofs.laws.texts.no_text_names_both.Goals as goal

pub returns : goal.returns
returns c = not_both
