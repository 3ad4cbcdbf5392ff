-- The words of this crate and of those below, passed on from one place.
pub use Rattle.ipnetwork.specs.Computed.IpNetworkText.{either_network_of, ip_network_of}
pub use Rattle.ipnetwork.specs.Computed.IpNetworks.{is_ip_member, is_ip_subnet}
pub use Rattle.ipnetwork.specs.IpNetworkText.{IsIpCause, IsIpSuffix, NamesIpNetwork, ParsesIpNetwork, ReadsIpNetwork, TellsIpCause, ip_network_text}
pub use Rattle.ipnetwork.specs.IpNetworks.{AreApart, GivesMaskPrefix, IpMember, IpOverlap, IpSubnet, IsIpAtMost, IsIpBefore, IsIpMask, IsIpNetwork, IsV4, IsV6, Makes, MakesWithMask, TakesV4, TakesV6, address_of, ip_high, ip_low, ip_mask_of, ip_members, ip_network_cmp, ip_network_writes, ip_size, made_of, prefix_of, width_of}
pub use Rattle.ipnetwork.specs.Laws.{AsksItsFamily, IpMembersAreListed, IpMembersAscend, MakesInItsFamily, MaskedIsMade, NoMaskIsRefused, ReadsInItsFamily, TakesItsFamily}
pub use Rattle.ipnetwork.specs.Private.Causes.{first_cause}
pub use Rattle.ipnetwork.specs.Sizes.{FitsV4, size_number}
pub use Rattle.ipnetwork.specs.declared.error.WrongFamily.{WrongFamily}
pub use Rattle.ipnetwork.specs.declared.ip_network.IpNetwork.{IpNetwork}
pub use Rattle.ipnetwork.specs.declared.ip_network.IpNetwork.TheVariants.{V4, V6}
pub use Rattle.ipnetwork.specs.declared.size.NetworkSize.{NetworkSize}
pub use Rattle.ipnetwork_addr.specs.Computed.Ipv4Text.{v4_of}
pub use Rattle.ipnetwork_addr.specs.Computed.Ipv6Canonical.{canonical_v6}
unfoldable pub use Rattle.ipnetwork_addr.specs.Computed.Ipv6Text.{gap_below, v6_of}
pub use Rattle.ipnetwork_addr.specs.Either.{IsAddrBefore, NamesIp}
pub use Rattle.ipnetwork_addr.specs.Ipv4Text.{NamesV4, canonical_v4}
pub use Rattle.ipnetwork_addr.specs.Ipv6Text.{NamesV6}
pub use Rattle.ipnetwork_addr.specs.Texts.{colon_first}
pub use Rattle.ipnetwork_addr.specs.declared.error.AddrParseError.TheVariants.{Ip}
pub use Rattle.ipnetwork_addr.specs.declared.ip.IpAddr.{IpAddr}
pub use Rattle.ipnetwork_family.proofs.JsonTexts.{stands_in_quotes, string_again, value_reads_back}
pub use Rattle.ipnetwork_family.specs.Computed.Ipv4NetworkText.{v4_length_of, v4_network_of}
pub use Rattle.ipnetwork_family.specs.Computed.Ipv6NetworkText.{v6_length_of, v6_network_of}
pub use Rattle.ipnetwork_family.specs.Computed.Network.{is_member, is_subnet}
pub use Rattle.ipnetwork_family.specs.Computed.NetworkText.{network_from, network_of, prefix_given, suffix_of}
pub use Rattle.ipnetwork_family.specs.Ipv4NetworkText.{IsV4Suffix, NamesV4Network, ReadsV4Network}
pub use Rattle.ipnetwork_family.specs.Ipv6NetworkText.{IsV6Suffix, NamesV6Network, ReadsV6Network}
pub use Rattle.ipnetwork_family.specs.JsonValues.{ReadsValue}
pub use Rattle.ipnetwork_family.specs.Laws.{MaskIsConverted, MasksDiffer, MembersLaw}
pub use Rattle.ipnetwork_family.specs.Masks.{GivesPrefixOfMask}
unfoldable pub use Rattle.ipnetwork_family.specs.Network.{count_up}
pub use Rattle.ipnetwork_family.specs.Network.{IsNetwork, IsNetworkAtMost, IsNetworkBefore, Member, Network, Overlap, Subnet, high, low, mask_of, members, network_cmp, size_of}
pub use Rattle.ipnetwork_family.specs.NetworkText.{Alone, HasNoSuffix, HasSeveralSlashes, IsCause, NamesNetwork, Suffixed, before_slash, network_text, slash, slashes}
pub use Rattle.ipnetwork_family.specs.Parsing.{ParsesAsItReads}
pub use Rattle.ipnetwork_family.specs.declared.error.CidrFault.{CidrFault}
pub use Rattle.ipnetwork_family.specs.declared.error.CidrFault.TheVariants.{Addr, Format, Prefix}
pub use Rattle.ipnetwork_family.specs.declared.error.IpNetworkError.{IpNetworkError}
pub use Rattle.ipnetwork_family.specs.declared.error.IpNetworkError.TheVariants.{InvalidPrefix}
pub use Rattle.ipnetwork_family.specs.declared.error.NetworkSizeError.TheVariants.{NetworkIsTooLarge}
pub use Rattle.std.proofs.Common.{Bool, Err, IsTrue, List, None, Ok, Option, Result, Some, [], ap, append-nil, arith, false, get_or, inl, length, refl, subst, suc, sym, true, true≢false, zero, ℕ, ◌++◌, ◌<◌, ◌↔◌, ◌∙◌, ◌∷◌, ◌≡◌, ◌≤◌}
pub use Rattle.std.proofs.lemmas.Bool.{cond_both}
pub use Rattle.std.proofs.lemmas.List.{get_or-map, length-map}
pub use Rattle.std.proofs.lemmas.List.Kept.{AllPairs-from_increasing}
unfoldable pub use Rattle.std.specs.Fmt.{digits}
unfoldable pub use Rattle.std.specs.Hash.{le_bytes}
pub use Rattle.std.specs.List.{AllPairs}
pub use Rattle.std.specs.Prelude.{Contains, IsErr, MatchResult, codes, map, nat_le}
pub use Rattle.std.specs.declared.cmp.Ordering.TheVariants.{Greater, Less}
