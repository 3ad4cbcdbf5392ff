use Rattle.ipnetwork_family.proofs.Known.{stands_in_quotes}
use Rattle.ipnetwork_family.proofs.laws.json_texts.network_stands_in_quotes.Goals as goal

pub returns : goal.returns
returns g c n h = stands_in_quotes _ (c.canonical_network_bytes.ensures n h)
