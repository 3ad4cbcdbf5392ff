use Rattle.ipnetwork.specs.declared.ip_network.IpNetwork.TheVariants.{V4, V6}
use Rattle.ipnetwork_addr.specs.declared.ip.IpAddr.TheVariants as ips
use Rattle.ipnetwork_law_uses.proofs.either_texts.members_pass_the_test.Goals as goal

pub returns-clause-v4 : goal.returns-clause-v4
returns-clause-v4 c = λ n x. c.ip_membership_is_computed.ensures (V4 n) (ips.V4 x)

pub returns-clause-v6 : goal.returns-clause-v6
returns-clause-v6 c = λ n x. c.ip_membership_is_computed.ensures (V6 n) (ips.V6 x)
