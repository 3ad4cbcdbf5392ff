-- The words of this crate and of those below, passed on from one place.
pub use Rattle.ipnetwork_addr.specs.Computed.Either.{either_of, ip_of}
pub use Rattle.ipnetwork_addr.specs.Computed.Ipv4Text.{v4_of}
pub use Rattle.ipnetwork_addr.specs.Computed.Ipv6Canonical.{canonical_v6, gap_among, zeros_in_front}
unfoldable pub use Rattle.ipnetwork_addr.specs.Computed.Ipv6Text.{gap_below, v6_of}
pub use Rattle.ipnetwork_addr.specs.Computed.Ipv6Text.{colon_parts, dotted_groups_of, dotted_of, full_number, gap_at, gap_number, group_of, grouped, groups_of, or_else, plain_of, two_groups_of}
pub use Rattle.ipnetwork_addr.specs.Computed.Reading.{answer_from}
pub use Rattle.ipnetwork_addr.specs.Digits.{digits_in, octets_of, octets_of_v6, segments_of}
pub use Rattle.ipnetwork_addr.specs.Either.{FitsIp, IsAddrAtMost, IsAddrBefore, NamesIp, canonical_ip, ip_cmp, ip_writes, unmapped}
pub use Rattle.ipnetwork_addr.specs.Faults.{addr_fault_text}
pub use Rattle.ipnetwork_addr.specs.Ipv4Text.{IsOctet, IsPlainOctet, NamesV4, canonical_v4}
pub use Rattle.ipnetwork_addr.specs.Ipv6Canonical.{IsCanonicalV6, IsGap, IsMapped, IsZeroRun, Mapped, Whole, hex, hex_groups}
pub use Rattle.ipnetwork_addr.specs.Ipv6Text.{IsCompressed, IsDotted, IsEnded, IsGroup, IsPlain, NamesV6, two_groups}
unfoldable pub use Rattle.ipnetwork_addr.specs.Private.Decimals.{padded_decimal}
pub use Rattle.ipnetwork_addr.specs.Private.DigitLanes.{AreDigitsIn, AreValuesOf, ShowsValues, ShowsValuesUpTo, group_in}
pub use Rattle.ipnetwork_addr.specs.Private.GroupFront.{BeginsWithGroup, BeginsWithHex, BeginsWithLeft, BeginsWithPart, Dotted, EndsWithRight, Gap, IsGroupUpTo, IsLeft, IsRight, IsTextPart, Last, Next, NoGroup, NoHex, NoLeft, NoPart, NoRight}
pub use Rattle.ipnetwork_addr.specs.Private.LongestRun.{IsLongestRun}
pub use Rattle.ipnetwork_addr.specs.Private.NoAddress.{NamesNoV4, NamesNoV6}
pub use Rattle.ipnetwork_addr.specs.Private.OctetFront.{BeginsWithOctet, HasNoOctetEnd, IsNoOctet, IsOctetEnd, NoDigit, NoOctetAndDot, before_dot, first_value}
pub use Rattle.ipnetwork_addr.specs.Private.OctetLanes.{AreAtLeast, AreOctetsOf, digit_in, end_of, first_count, fourth_at, fourth_count, joined_positions, lane_at, row_least, row_positions, second_at, second_count, sixteen, third_at, third_count}
pub use Rattle.ipnetwork_addr.specs.Reading.{Reads}
pub use Rattle.ipnetwork_addr.specs.Segments.{AreSegments, number_of_segments}
pub use Rattle.ipnetwork_addr.specs.SegmentsBack.{reversed_segments, segments_back}
pub use Rattle.ipnetwork_addr.specs.Texts.{Colon, Digit, Dot, IsAddressByte, LowerHex, UpperHex, colon, colon_first, dot}
pub use Rattle.ipnetwork_addr.specs.declared.decimal_value.TheConstants.{DIGITS, DIGITS_OR_DOT, FACTORS, FIRST_DIGITS, NO_DOTS}
pub use Rattle.ipnetwork_addr.specs.declared.error.AddrParseError.{AddrParseError}
pub use Rattle.ipnetwork_addr.specs.declared.error.AddrParseError.TheVariants.{Ip, Ipv4, Ipv6}
pub use Rattle.ipnetwork_addr.specs.declared.hex_value.TheConstants.{VALUES}
pub use Rattle.ipnetwork_addr.specs.declared.ip.IpAddr.{IpAddr}
pub use Rattle.ipnetwork_addr.specs.declared.ip.IpAddr.TheVariants.{V4, V6}
pub use Rattle.ipnetwork_addr.specs.declared.octet_tables.TheConstants.{JOINED, LEAST, LENGTHS, PLACES, ROWS}
pub use Rattle.std.proofs.Common.{Bool, IfSome, IsTrue, List, MatchOption, None, Option, Result, Some, T, [], add-one, ap, append-nil, append_assoc, ap₂, arith, bit_and, bit_or, cond, decimal, drop, eqb, false, flat_map, get_or, get_or-drop, inl, inr, leb, length, length-append, length-drop, length-take-le, lit<, lit≤, ltb, map, min, mul-le-mul_right, nat_lt, not, refl, replicate, reverse, subst, suc, sym, take, take-add, take-append-drop, true, true≢false, w32, w8, zero, ℕ, ◌%◌, ◌*◌, ◌++◌, ◌+◌, ◌-◌, ◌/◌, ◌<◌, ◌==◌, ◌^◌, ◌||◌, ◌↔◌, ◌∙◌, ◌∷◌, ◌≡◌, ◌≢◌, ◌≤◌, ◌⊎◌}
pub use Rattle.std.proofs.Math.Nat.{div-div-eq-div-mul, mul-lt-mul_of_pos_right, mul_assoc, pow-le-pow_right, pow-succ', zero-div}
pub use Rattle.std.proofs.lemmas.Bool.{agree_below, agree_below_at, cases_eq, cases_lt, cond_both, eq-eqb, eqb-false, eqb-true, le-leb, le-ltb, leb-false, leb-true, lt-leb, lt-ltb, ltb-false, ltb-true, ne_eqb}
pub use Rattle.std.proofs.lemmas.Bool.Decides.{Decides-eqb}
pub use Rattle.std.proofs.lemmas.Fmt.{decimal-digits_value, decimal_by_steps, decimal_digit, decimal_is_IsNumeral, decimal_step, decimal_step_wide, digits_is_IsNumeral, first_decimal, hex_one_digit, hex_two_digits, length-decimal-le}
pub use Rattle.std.proofs.lemmas.Grind.{common_steps}
pub use Rattle.std.proofs.lemmas.Int.Digits.{digits_value-lt, number_after_append, number_more}
pub use Rattle.std.proofs.lemmas.List.{append_cancel_left, drop-drop, drop-take, drop_all, drop_at, drop_more, get_or-map, get_or-take, get_or_at, get_or_past, nil_from_length, take-take, take_all, take_at, take_rest}
pub use Rattle.std.proofs.lemmas.List.Splits.{join_with_byte-slice_split}
pub use Rattle.std.proofs.lemmas.Nat.{and_le_l, and_mask, div-mul-add, mul-add-lt, pow-add, pow_pos}
pub use Rattle.std.proofs.lemmas.Nat.Bits.{bit_at-zero, bit_at_and}
pub use Rattle.std.proofs.lemmas.Option.{none-some, same_Some}
pub use Rattle.std.proofs.lemmas.Simd.{Each1-get_or, SwzOk, SwzOk-from_Each1, below_from_Fits, bit_mask_l, bitmask_splat, get_or-chunk, get_or-put_chunk_at, get_or-put_chunk_below, get_or-zip2, leading_from_mask_l, length-zip2, mask_l-mod, put_chunk_is, swz_l, tops_compared, trailing_mask_l, zip2_splat}
pub use Rattle.std.proofs.lemmas.Slice.Eq.{bytes_eq-Decides, slice_eq-Decides}
pub use Rattle.std.proofs.lemmas.Str.{digit_value_digit, encode_ascii}
pub use Rattle.std.proofs.lemmas.Str.Parse.{IsNumeralModel, digit_at, digit_from_value, numerals_by_value, tells_digits}
pub use Rattle.std.specs.Char.{digit_value, is_digit}
pub use Rattle.std.specs.Cmp.Lexicographic.{pointwise}
unfoldable pub use Rattle.std.specs.Fmt.{digits}
pub use Rattle.std.specs.Fmt.{digit_glyph}
unfoldable pub use Rattle.std.specs.Hash.{le_bytes}
pub use Rattle.std.specs.Int.{bit_at, byte_at, bytes_high_first, bytes_low_first}
pub use Rattle.std.specs.Int.Digits.{AllBelowBase, number_from_digits, number_from_digits_after}
pub use Rattle.std.specs.List.{AllByRecursion, AllZip, join_with_byte, list_all, prefix_len, slice_split}
pub use Rattle.std.specs.Option.{option_copied, option_map}
pub use Rattle.std.specs.Prelude.{Err, Ok, bytes_eq, codes, is_err, nat_le, ◌&&◌}
pub use Rattle.std.specs.Str.Parse.{AllDigits, digits_value}
pub use Rattle.std.specs.declared.cmp.Ordering.TheVariants.{Equal, Greater, Less}
