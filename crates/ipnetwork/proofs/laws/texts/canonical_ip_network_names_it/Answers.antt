use Rattle.ipnetwork.proofs.Known.{IpNetwork, V4, V6, IsIpNetwork, NamesIpNetwork, ip_network_text}
use Rattle.ipnetwork.proofs.laws.texts.canonical_ip_network_names_it.Goals as goal

pub returns : goal.returns
returns c = go
  where
    go : (n : IpNetwork) → IsIpNetwork n → NamesIpNetwork (ip_network_text n) n
    go (V4 n) h = c.canonical_network_names_it.ensures n h
    go (V6 n) h = c.canonical_network_names_it-2.ensures n h
