use Rattle.ipnetwork.proofs.Known.{reading_is_computed}
use Rattle.ipnetwork.proofs.laws.texts.ip_network_reading_is_computed.Goals as goal

pub returns : goal.returns
returns c = reading_is_computed c.ip_network_text_names_one.ensures c.v4_network_reading_is_computed.ensures
    c.v6_network_reading_is_computed.ensures
