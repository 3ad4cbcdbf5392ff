use Rattle.ipnetwork_family.proofs.Known.{trailing_zeros}
use Rattle.ipnetwork_family.proofs.ipv4.Ipv4AddrAddress.trailing_zeros.Goals as goal

pub returns : goal.returns
returns c = rw (← c.from.ensures) (trailing_zeros 32 c.from.result)
