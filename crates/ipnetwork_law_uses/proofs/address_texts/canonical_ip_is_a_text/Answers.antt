use Rattle.ipnetwork_addr.specs.declared.ip.IpAddr.TheVariants.{V4, V6}
use Rattle.ipnetwork_law_uses.proofs.address_texts.canonical_ip_is_a_text.Goals as goal

pub returns-clause-v4 : goal.returns-clause-v4
returns-clause-v4 c = λ a l. c.canonical_ip_names_its_address.ensures (V4 a) l

pub returns-clause-v6 : goal.returns-clause-v6
returns-clause-v6 c = λ a l. c.canonical_ip_names_its_address.ensures (V6 a) l
