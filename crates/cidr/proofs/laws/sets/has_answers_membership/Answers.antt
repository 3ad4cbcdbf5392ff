use Rattle.cidr.proofs.Known.{Ok, value_from, has_ip_members}
use Rattle.cidr.proofs.laws.sets.has_answers_membership.Goals as goal

pub returns : goal.returns
returns c = λ text word n a network address.
    has_ip_members text word n a (c.ip_membership_is_computed.ensures n a)
    ((c.ip_network_reading_is_computed.ensures text (Ok n)).0 network)
    (value_from _ _ _ ((c.ip_reading_is_computed.ensures word (Ok a)).0 address))
