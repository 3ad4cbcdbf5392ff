use Rattle.cidr.proofs.Known.{Ok, has_members}
use Rattle.cidr.proofs.laws.sets.has4_answers_membership.Goals as goal

pub returns : goal.returns
returns c = λ text word n a network address.
    has_members text word n a (c.membership_is_computed.ensures 32 n a)
    ((c.v4_network_reading_is_computed.ensures text (Ok n)).0 network)
    ((c.v4_text_is_computed.ensures word a).0 address)
