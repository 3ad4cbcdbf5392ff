use Rattle.ipnetwork_family.proofs.Known.{v6_clear}
use Rattle.ipnetwork_family.proofs.ipv6.Ipv6AddrAddress.law_texts.Goals as goal

pub returns : goal.returns
returns c =
    v6_clear c.v6_text_is_computed.ensures c.v6_text_bytes.ensures
    c.canonical_v6_names_its_address.ensures c.canonical_v6_is_one_text.ensures
