use Rattle.ipnetwork_witness.proofs.Known.{octets_decide}
use Rattle.ipnetwork_witness.proofs.ipv4.agree_v4.Goals as goal

pub returns-in-Ok-theirs : goal.returns-in-Ok-theirs
returns-in-Ok-theirs c = rw (c.in-Ok.is, c.in-Ok-theirs.is)
    (octets_decide _ _ _ _ _ c.octets.ensures.bound c.eq.ensures c.octets.ensures.octets c.octets-in-Ok-theirs.ensures)
