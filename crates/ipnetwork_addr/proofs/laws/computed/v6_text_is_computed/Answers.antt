use Rattle.ipnetwork_addr.proofs.Known.{v6_of_sound, v6_of_complete}
use Rattle.ipnetwork_addr.proofs.laws.computed.v6_text_is_computed.Goals as goal

pub returns : goal.returns
returns c text address = (v6_of_complete text address, v6_of_sound text address)
