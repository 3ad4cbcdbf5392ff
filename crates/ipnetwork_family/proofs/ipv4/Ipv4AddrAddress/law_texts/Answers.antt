use Rattle.ipnetwork_family.proofs.Known.{v4_clear}
use Rattle.ipnetwork_family.proofs.ipv4.Ipv4AddrAddress.law_texts.Goals as goal

pub returns : goal.returns
returns c =
    v4_clear c.v4_text_is_computed.ensures c.v4_text_bytes.ensures
    c.canonical_v4_names_its_address.ensures
