use Rattle.ipnetwork.proofs.Known.{subnet_answer_v4, subnet_answer_v6, subnet_refused_v4, subnet_refused_v6}
use Rattle.ipnetwork.proofs.ip_network.IpNetwork.is_subnet_of.Goals as goal

pub returns-in-V4-other : goal.returns-in-V4-other
returns-in-V4-other c = subnet_answer_v4 _ _ _ _ _ c.in-V4.is c.in-V4-other.is c.is_subnet_of.ensures

pub returns-in-V6-other : goal.returns-in-V6-other
returns-in-V6-other c = subnet_refused_v4 _ _ _ _ c.in-V4.is c.in-V6-other.is c.ip.ensures.network

pub returns-in-V4-other-2 : goal.returns-in-V4-other-2
returns-in-V4-other-2 c = subnet_refused_v6 _ _ _ _ c.in-V6.is c.in-V4-other-2.is c.ip.ensures.network

pub returns-in-V6-other-2 : goal.returns-in-V6-other-2
returns-in-V6-other-2 c = subnet_answer_v6 _ _ _ _ _ c.in-V6.is c.in-V6-other-2.is c.is_subnet_of-in-V6-other-2.ensures
