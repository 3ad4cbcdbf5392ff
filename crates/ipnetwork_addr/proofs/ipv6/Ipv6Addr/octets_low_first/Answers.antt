use Rattle.ipnetwork_addr.proofs.Known.{ap, ◌∙◌, le_bytes, made_of}
use Rattle.ipnetwork_addr.proofs.ipv6.Ipv6Addr.octets_low_first.Goals as goal

pub returns : goal.returns
returns c = c.octets_low_first.ensures
    ∙ ap (le_bytes 16) (made_of _ _ c.segments.ensures.bound c.segments.ensures.segments)
