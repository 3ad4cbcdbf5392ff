use Rattle.ipnetwork_witness.proofs.Known.{segments_decide}
use Rattle.ipnetwork_witness.proofs.ipv6.agree_v6.Goals as goal

pub returns-in-Ok-theirs : goal.returns-in-Ok-theirs
returns-in-Ok-theirs c = rw (c.in-Ok.is, c.in-Ok-theirs.is) (segments_decide _ _ _ _ _ c.segments.ensures.bound
    c.eq.ensures c.segments.ensures.segments c.segments-in-Ok-theirs.ensures)
