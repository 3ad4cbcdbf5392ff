use Rattle.ipnetwork_addr.proofs.Known.{ap, ◌∙◌, octets_of_v6, made_of}
use Rattle.ipnetwork_addr.proofs.ipv6.Ipv6Addr.octets.Goals as goal

pub returns : goal.returns
returns c = c.octets_high_first.ensures
    ∙ ap octets_of_v6 (made_of _ _ c.segments.ensures.bound c.segments.ensures.segments)
