-- The words and the lemmas that answers cite, passed on from one place.
unfoldable pub use Rattle.ipnetwork_family.proofs.Words.{count_leading_zeros, digits, v6_of}
pub use Rattle.ipnetwork_family.proofs.Words.{AllDigits, Decides-eqb, GivesPrefixOfMask, IsCause, IsV4Suffix, IsV6Suffix, List, MASKS, NamesNetworkOf, NamesV4, NamesV4Network, NamesV6, NamesV6Network, ParsesNetworkOf, ReadsValue, Suffixed, [], agree_below_at, ap, ap₂, arith, bit_and, bit_or, cond, decimal, digits_more, digits_value, digits_value_more, drop, eq-eqb, eqb-true, err_from_is_err_and, get_or, inl, inr, leading_le, length, length-append, length-decimal-le, length-set, made_of, mask_of, number_of_segments, ones_shr, pointwise, refl, segments_of, slice_eq-Decides, slice_get, subst, sum_by, sum_by_more, sym, take, take_all, take_rest, text_of, true, true≢false, v4_family, v4_length_of, v4_of, v6_family, v6_length_of, ℕ, ◌*◌, ◌+◌, ◌-◌, ◌/◌, ◌<◌, ◌==◌, ◌^◌, ◌↔◌, ◌∙◌, ◌≡◌, ◌≤◌}
pub use Rattle.ipnetwork_family.proofs.Bits.{clear_hosts, contains_by_mask, host_ones_are, set_hosts}
pub use Rattle.ipnetwork_family.proofs.Blocks.{between_is_subnet, block_begins, block_fits_too, block_same_set, has_ends, high_fits, masks_differ, membership_computed, nested, no_subnet_if_shorter, overlap_by_address, overlap_by_ends, overlap_if_not_first, overlap_turned, same_set, subnet_after, subnet_computed, subnet_if_longer}
pub use Rattle.ipnetwork_family.proofs.CanonicalNetworks.{canonical_bytes, canonical_differs, canonical_names, canonical_reads, v4_clear, v6_clear}
pub use Rattle.ipnetwork_family.proofs.ComputedNetworks.{names_one, reading_is_computed}
pub use Rattle.ipnetwork_family.proofs.ComputedV4.{prefix_number_complete, prefix_number_sound, v4_suffixes}
pub use Rattle.ipnetwork_family.proofs.ComputedV6.{v6_suffix_read, v6_suffixes}
pub use Rattle.ipnetwork_family.proofs.CountedBits.{shared_bits, trailing_zeros}
pub use Rattle.ipnetwork_family.proofs.EightSegments.{AgreeIn, agree_more, agree_under, filled_more, fits_more, greatest_under, kept_more, least_under, number_of_mask, ones_of_mask}
pub use Rattle.ipnetwork_family.proofs.ErrorTexts.{format_printed, same_text}
pub use Rattle.ipnetwork_family.proofs.Generic.{at_most_from_cmp, last_of_four}
pub use Rattle.ipnetwork_family.proofs.JsonTexts.{stands_in_quotes, string_again, value_reads_back}
pub use Rattle.ipnetwork_family.proofs.Masks.{mask_is_computed, mask_is_converted, no_mask}
pub use Rattle.ipnetwork_family.proofs.Members.{before_last, falls, left_at_last, left_before_last, lists_members, none_behind, none_left, none_passed, passed_item, passed_left}
pub use Rattle.ipnetwork_family.proofs.NetworkTexts.{named_by_parts, no_address, no_prefix, slashes_name_nothing}
pub use Rattle.ipnetwork_family.proofs.NoSuffix.{no_suffix}
pub use Rattle.ipnetwork_family.proofs.Numerals.{is_digit, is_no_digit, no_digit_no_numeral, too_great, two_digits_named}
pub use Rattle.ipnetwork_family.proofs.Parsed.{parses_as_it_reads}
pub use Rattle.ipnetwork_family.proofs.Shown.{two_writes}
pub use Rattle.ipnetwork_family.proofs.Slashes.{boundary_after_slash, cut_at, none_found, only_found, second_found}
pub use Rattle.ipnetwork_family.proofs.Suffixes.{address_no_slash, suffix_as_mask, suffix_as_neither, v4_suffix_read}
