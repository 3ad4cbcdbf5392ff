use Rattle.ipnetwork.specs.declared.ip_network.IpNetwork.TheVariants.{V4, V6}
use Rattle.ipnetwork_addr.specs.declared.ip.IpAddr.TheVariants as ips
use Rattle.ipnetwork_law_uses.proofs.either_texts.members_are_listed.Goals as goal

pub returns-clause-v4 : goal.returns-clause-v4
returns-clause-v4 c = λ n x h. c.ip_listing.ensures.members (V4 n) (ips.V4 x) h

pub returns-clause-v6 : goal.returns-clause-v6
returns-clause-v6 c = λ n x h. c.ip_listing.ensures.members (V6 n) (ips.V6 x) h

pub returns-clause-ascend4 : goal.returns-clause-ascend4
returns-clause-ascend4 c = λ n h. c.ip_listing.ensures.ascending (V4 n) h

pub returns-clause-ascend6 : goal.returns-clause-ascend6
returns-clause-ascend6 c = λ n h. c.ip_listing.ensures.ascending (V6 n) h
