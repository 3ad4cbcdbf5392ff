use Rattle.ipnetwork.proofs.Known.{names_one}
use Rattle.ipnetwork.proofs.laws.texts.ip_network_text_names_one.Goals as goal

pub returns : goal.returns
returns c = names_one (record {
  v4_address = c.v4_text_is_computed.ensures;
  v6_address = c.v6_text_is_computed.ensures;
  apart = c.no_text_names_both.ensures;
  v4_reading = c.v4_network_reading_is_computed.ensures;
  v6_reading = c.v6_network_reading_is_computed.ensures;
})
