use Rattle.ipnetwork_addr.proofs.Known.{reverse, sym, ◌∙◌, segments_back, reversed_segments, address_fits}
use Rattle.ipnetwork_addr.proofs.ipv6.Ipv6Addr.segments.Goals as goal

pub returns-clause-segments : goal.returns-clause-segments
returns-clause-segments c = rw (← c.self.view_is)
    (c.reversed.ensures ∙ sym (segments_back (reverse c.self.inside.low_first)
    (reversed_segments c.self.inside.low_first c.self.invariant)))

pub returns-clause-bound : goal.returns-clause-bound
returns-clause-bound c = rw (← c.self.view_is)
    (address_fits (reverse c.self.inside.low_first) (reversed_segments c.self.inside.low_first c.self.invariant))
