-- The words and the lemmas that answers cite, passed on from one place.
unfoldable pub use Rattle.ipnetwork_witness.proofs.Words.{ipv6_text}
pub use Rattle.ipnetwork_witness.proofs.Words.{FitsIp, IpAddr, Ipv4Addr, Ipv6Addr, IsIpText, List, NamesIp, NamesV4, NamesV6, SameIp, SameV4, SameV6, V4, V6, ap, arith, canonical_ip, canonical_v4, canonical_v6, ip_text, ipv4_text, sym, ℕ, ◌↔◌, ◌∙◌, ◌≡◌}
pub use Rattle.ipnetwork_witness.proofs.Agreements.{octets_decide, readers_agree, segments_decide}
pub use Rattle.ipnetwork_witness.proofs.Dotted.{v4_prints}
pub use Rattle.ipnetwork_witness.proofs.PrintedV6.{v6_prints}
pub use Rattle.ipnetwork_witness.proofs.SameAddresses.{octets_are, segments_are, v4_ours, v4_texts, v4_theirs, v6_ours, v6_texts, v6_theirs}
