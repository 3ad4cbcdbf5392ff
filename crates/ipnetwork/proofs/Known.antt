-- The words and the lemmas that answers cite, passed on from one place.
unfoldable pub use Rattle.ipnetwork.proofs.Words.{digits}
pub use Rattle.ipnetwork.proofs.Words.{Addr, CidrFault, GivesMaskPrefix, Ip, IpAddr, IpNetwork, IsIpCause, IsIpNetwork, NamesIpNetwork, Network, Ok, ParsesIpNetwork, ReadsIpNetwork, ReadsValue, Result, V4, V6, ap, arith, codes, ip_network_text, prefix_of, refl, stands_in_quotes, string_again, subst, sym, value_reads_back, ◌∙◌, ◌≡◌}
pub use Rattle.ipnetwork.proofs.Causes.{cause_of_both}
pub use Rattle.ipnetwork.proofs.EitherNetworks.{names_one, one_to_one, reading_is_computed, reads_back}
pub use Rattle.ipnetwork.proofs.Families.{member_computed, names_none, no_overlap_v4, no_subnet_v4, no_subnet_v6, overlap_answer_v4, overlap_answer_v6, subnet_answer_v4, subnet_answer_v6, subnet_computed, subnet_refused_v4, subnet_refused_v6}
pub use Rattle.ipnetwork.proofs.FamilyQuestions.{mask_converted, v4_asks, v4_makes, v4_reads, v4_takes, v6_asks, v6_makes, v6_reads, v6_takes}
pub use Rattle.ipnetwork.proofs.FirstMarks.{none_with_colon, none_without_colon}
pub use Rattle.ipnetwork.proofs.Listings.{listed_members, members_ascend}
pub use Rattle.ipnetwork.proofs.Masked.{masked_is_made, no_mask_is_refused}
pub use Rattle.ipnetwork.proofs.Parsed.{parses_as_it_reads}
