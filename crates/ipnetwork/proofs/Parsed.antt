-- Parsing networks of either family returns what reading does.
use Rattle.ipnetwork.proofs.Words.{Ok, Err, Ip, ParsesAsItReads, ReadsIpNetwork, ParsesIpNetwork}

pub parses_as_it_reads : ParsesAsItReads ReadsIpNetwork Ip ParsesIpNetwork
parses_as_it_reads text (Ok n) = ((λ h. h), (λ h. h))
parses_as_it_reads text (Err error) = ((λ h. (h.1.0, (h.1.1, h.0), h.1.2)), (λ h. (h.1.1, (h.0, h.1.0, h.2))))
