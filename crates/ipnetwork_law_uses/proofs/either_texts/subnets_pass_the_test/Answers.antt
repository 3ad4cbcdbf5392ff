use Rattle.ipnetwork.specs.declared.ip_network.IpNetwork.TheVariants.{V4, V6}
use Rattle.ipnetwork_law_uses.proofs.either_texts.subnets_pass_the_test.Goals as goal

pub returns-clause-v4 : goal.returns-clause-v4
returns-clause-v4 c = λ a b h k. c.ip_subnet_is_computed.ensures (V4 a) (V4 b) h k

pub returns-clause-v6 : goal.returns-clause-v6
returns-clause-v6 c = λ a b h k. c.ip_subnet_is_computed.ensures (V6 a) (V6 b) h k
