use Rattle.ipnetwork.specs.declared.ip_network.IpNetwork.TheVariants.{V4, V6}
use Rattle.ipnetwork_law_uses.proofs.either_texts.network_bytes.Goals as goal

pub returns-clause-v4 : goal.returns-clause-v4
returns-clause-v4 c = λ n h. c.canonical_ip_network_bytes.ensures (V4 n) h

pub returns-clause-v6 : goal.returns-clause-v6
returns-clause-v6 c = λ n h. c.canonical_ip_network_bytes.ensures (V6 n) h
