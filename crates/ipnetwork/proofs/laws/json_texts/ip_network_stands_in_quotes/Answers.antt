use Rattle.ipnetwork.proofs.Known.{stands_in_quotes}
use Rattle.ipnetwork.proofs.laws.json_texts.ip_network_stands_in_quotes.Goals as goal

pub returns : goal.returns
returns c n h = stands_in_quotes _ (c.canonical_ip_network_bytes.ensures n h)
