-- The words and the lemmas that answers cite, passed on from one place.
unfoldable pub use Rattle.ipnetwork_addr.proofs.Words.{digits, gap_below, le_bytes, v6_of}
pub use Rattle.ipnetwork_addr.proofs.Words.{AddrParseError, AreValuesOf, DIGITS, DIGITS_OR_DOT, FACTORS, FIRST_DIGITS, IpAddr, IsCanonicalV6, IsNoOctet, IsOctet, IsPlainOctet, JOINED, LEAST, LENGTHS, List, MatchOption, NO_DOTS, NamesIp, NamesV4, NamesV6, PLACES, ROWS, Reads, Result, V4, V6, VALUES, agree_below_at, ap, append-nil, arith, bitmask_splat, canonical_ip, canonical_v4, canonical_v6, cases_lt, codes, colon, colon_first, common_steps, cond, digit_value, dot, drop, drop_all, end_of, eqb, eqb-true, false, first_value, flat_map, get_or, get_or_past, hex, inl, inr, ip_of, joined_positions, leading_from_mask_l, length, length-drop, lit≤, ltb, ltb-true, min, nat_lt, octets_of_v6, option_copied, option_map, put_chunk_is, refl, reverse, reversed_segments, row_least, row_positions, segments_back, subst, sym, take, take-append-drop, take_rest, trailing_mask_l, true, v4_of, w8, ℕ, ◌*◌, ◌++◌, ◌+◌, ◌-◌, ◌/◌, ◌<◌, ◌==◌, ◌^◌, ◌∙◌, ◌∷◌, ◌≡◌, ◌≤◌}
pub use Rattle.ipnetwork_addr.proofs.AddressBytes.{v4_bytes}
pub use Rattle.ipnetwork_addr.proofs.ComputedReading.{ip_computed, reading_is_computed, v4_computed, v6_computed}
pub use Rattle.ipnetwork_addr.proofs.ComputedV4.{v4_of_complete, v4_of_sound}
pub use Rattle.ipnetwork_addr.proofs.ComputedV6.{v6_of_complete, v6_of_sound}
pub use Rattle.ipnetwork_addr.proofs.Decimals.{one_pushed, pushed_as, three_pushed, two_pushed}
pub use Rattle.ipnetwork_addr.proofs.DigitLanes.{lanes_are, shows_more, values_of_lanes}
pub use Rattle.ipnetwork_addr.proofs.EightSegments.{address_fits, made_of}
pub use Rattle.ipnetwork_addr.proofs.EitherFamily.{canonical_ip_names, ip_one_to_one, ip_unique, not_both}
pub use Rattle.ipnetwork_addr.proofs.FirstDigits.{all_of, behind_end, behind_within, digit_bound, digits_before_dot, factor_bound, first_bound, last_bound, no_dot_bound, no_octet_at, no_octet_before_at, no_octet_before_dot, no_octet_of_several, octet_before_at, several_digits}
pub use Rattle.ipnetwork_addr.proofs.FirstLanes.{first_is}
pub use Rattle.ipnetwork_addr.proofs.FirstMarks.{none_with_colon, none_without_colon, v4_dot_first, v6_colon_first}
pub use Rattle.ipnetwork_addr.proofs.Gaps.{gap_beside_eight, names_full, names_gap, no_names, no_names_right, no_right_gap, no_right_part, right_empty, right_part, too_few}
pub use Rattle.ipnetwork_addr.proofs.Groups.{four_hexes, no_group_of_five, three_hexes, two_hexes}
pub use Rattle.ipnetwork_addr.proofs.GroupsAtOnce.{at_colon, group_up_to, last_are_digits, no_colon_at, second_colon}
pub use Rattle.ipnetwork_addr.proofs.Hexes.{groups_pushed, pushed_four, pushed_one, pushed_three, pushed_two}
pub use Rattle.ipnetwork_addr.proofs.Ipv4Lemmas.{canonical_v4_names, is_nil, not_nil, v4_unique}
pub use Rattle.ipnetwork_addr.proofs.Ipv6Bytes.{v6_bytes}
pub use Rattle.ipnetwork_addr.proofs.Ipv6Names.{v6_unique}
pub use Rattle.ipnetwork_addr.proofs.Ipv6Printed.{canonical_v6_from, canonical_v6_is_only, canonical_v6_names, canonical_v6_one_to_one}
pub use Rattle.ipnetwork_addr.proofs.MappedGroups.{mapped_groups, other_front}
pub use Rattle.ipnetwork_addr.proofs.OctetFronts.{four_octets, no_end, no_first, no_fourth, no_octet_before, no_octet_of_four, no_octet_of_none, no_octet_of_one, no_second, no_third, one_digit}
pub use Rattle.ipnetwork_addr.proofs.OctetLanes.{joined_ok, joined_text, lanes_at, none_less, octets_read, positions_ok, some_names, weights_ok}
pub use Rattle.ipnetwork_addr.proofs.PartSteps.{PartSoFar, ends_at_gap, ends_dotted, ends_last, fits_one, fits_two, no_dotted, no_group_on, no_other_byte, no_room, no_room_dotted, so_far_more, so_far_none}
pub use Rattle.ipnetwork_addr.proofs.PlainOctet.{octet_from_plain, plain_from_octet}
pub use Rattle.ipnetwork_addr.proofs.Printed.{not_from_test, printed_gap, printed_mapped, printed_whole}
pub use Rattle.ipnetwork_addr.proofs.SegmentOctets.{segments_octets, segments_octets_high}
pub use Rattle.ipnetwork_addr.proofs.Shifts.{gap_fits, shifted}
pub use Rattle.ipnetwork_addr.proofs.Tables.{entry, row}
pub use Rattle.ipnetwork_addr.proofs.WideDecimals.{CountsDigits, count_few, counted_end, counted_few, counted_step, padded_none, padded_one, padded_pushed, shortest_pushed}
pub use Rattle.ipnetwork_addr.proofs.ZeroScan.{Scanned, past_longer, past_other, past_zero, scanned_all}
