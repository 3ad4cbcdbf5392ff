use Rattle.ipnetwork.proofs.Known.{◌≡◌, Ip, Addr, value_reads_back, NamesIpNetwork, ip_network_text}
use Rattle.ipnetwork.proofs.laws.json_texts.ip_network_value_reads_back.Goals as goal

pub returns : goal.returns
returns c n result h =
    let text = ip_network_text n in
    value_reads_back NamesIpNetwork (λ _ fault. fault ≡ Addr) Ip text (c.ip_network_text_names_one.ensures text) n
    result (c.canonical_ip_network_names_it.ensures n h)
