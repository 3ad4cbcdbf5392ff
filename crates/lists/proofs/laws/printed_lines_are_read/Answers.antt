use Rattle.lists.proofs.Known.{printed_lines}
use Rattle.lists.proofs.laws.printed_lines_are_read.Goals as goal

pub returns : goal.returns
returns c = printed_lines c.canonical_ip_network_bytes.ensures c.canonical_ip_network_names_it.ensures
