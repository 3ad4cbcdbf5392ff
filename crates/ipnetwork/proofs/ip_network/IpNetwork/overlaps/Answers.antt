use Rattle.ipnetwork.proofs.Known.{overlap_answer_v4, overlap_answer_v6}
use Rattle.ipnetwork.proofs.ip_network.IpNetwork.overlaps.Goals as goal

pub returns-in-V4-other : goal.returns-in-V4-other
returns-in-V4-other c = overlap_answer_v4 _ _ _ _ _ c.in-V4.is c.in-V4-other.is c.overlaps.ensures

pub returns-in-V6-other-2 : goal.returns-in-V6-other-2
returns-in-V6-other-2 c = overlap_answer_v6 _ _ _ _ _ c.in-V6.is c.in-V6-other-2.is c.overlaps-in-V6-other-2.ensures
