use Rattle.cidr.proofs.Known.{Ok, relates_sets}
use Rattle.cidr.proofs.laws.sets.rel_answers_sets.Goals as goal

pub returns : goal.returns
returns c = λ text other a b h k one two.
    relates_sets text other a b (c.ip_subnet_is_computed.ensures a b h k) (c.ip_subnet_is_computed.ensures b a k h)
    ((c.ip_network_reading_is_computed.ensures text (Ok a)).0 one)
    ((c.ip_network_reading_is_computed.ensures other (Ok b)).0 two)
