use Rattle.ipnetwork_family.proofs.Known.{v6_suffix_read}
use Rattle.ipnetwork_family.proofs.ipv6.Ipv6AddrAddress.read_suffix.Goals as goal

pub returns : goal.returns
returns c = v6_suffix_read c.args.text.now c.read_prefix.result c.read_prefix.ensures
