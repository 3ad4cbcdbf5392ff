use Rattle.ipnetwork_family.proofs.Known.{shared_bits}
use Rattle.ipnetwork_family.proofs.ipv4.Ipv4AddrAddress.shared_bits.Goals as goal

pub returns : goal.returns
returns c = rw (← c.from.ensures, ← c.from-2.ensures)
    (shared_bits 32 c.from.result c.from-2.result c.from.type_inv c.from-2.type_inv)
