use Rattle.ipnetwork_addr.proofs.Known.{v4_of_sound, v4_of_complete}
use Rattle.ipnetwork_addr.proofs.laws.computed.v4_text_is_computed.Goals as goal

pub returns : goal.returns
returns c text address = (v4_of_complete text address, v4_of_sound text address)
