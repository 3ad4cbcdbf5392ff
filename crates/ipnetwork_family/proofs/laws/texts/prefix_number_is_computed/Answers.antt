use Rattle.ipnetwork_family.proofs.Known.{prefix_number_sound, prefix_number_complete}
use Rattle.ipnetwork_family.proofs.laws.texts.prefix_number_is_computed.Goals as goal

pub returns : goal.returns
returns c = λ text value. (prefix_number_complete text value, prefix_number_sound text value)
