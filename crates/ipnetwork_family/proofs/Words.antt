-- The words of this crate and of those below, passed on from one place.
pub use Rattle.byte_search.specs.Bytes.{IsAbsent, IsNext}
pub use Rattle.ipnetwork_addr.proofs.EightSegments.{made_of}
pub use Rattle.ipnetwork_addr.specs.Computed.Ipv4Text.{v4_of}
pub use Rattle.ipnetwork_addr.specs.Computed.Ipv6Canonical.{canonical_v6}
unfoldable pub use Rattle.ipnetwork_addr.specs.Computed.Ipv6Text.{gap_below, v6_of}
pub use Rattle.ipnetwork_addr.specs.Digits.{segments_of}
pub use Rattle.ipnetwork_addr.specs.Ipv4Text.{IsOctet, NamesV4, canonical_v4}
pub use Rattle.ipnetwork_addr.specs.Ipv6Canonical.{IsCanonicalV6}
pub use Rattle.ipnetwork_addr.specs.Ipv6Text.{NamesV6}
pub use Rattle.ipnetwork_addr.specs.Segments.{number_of_segments}
pub use Rattle.ipnetwork_addr.specs.Texts.{Colon, Digit, Dot, IsAddressByte, LowerHex, UpperHex, dot}
pub use Rattle.ipnetwork_addr.specs.declared.error.AddrParseError.{AddrParseError}
pub use Rattle.ipnetwork_addr.specs.declared.error.AddrParseError.TheVariants.{Ip, Ipv4, Ipv6}
pub use Rattle.ipnetwork_family.specs.Bits.{EndsInZeros, SharesBits}
pub use Rattle.ipnetwork_family.specs.Computed.Ipv4NetworkText.{masked, v4_length_from, v4_length_of, v4_network_of}
pub use Rattle.ipnetwork_family.specs.Computed.Ipv6NetworkText.{v6_length_from, v6_length_of, v6_network_of}
pub use Rattle.ipnetwork_family.specs.Computed.Network.{is_member, is_subnet, prefix_of_mask}
pub use Rattle.ipnetwork_family.specs.Computed.NetworkText.{network_from, network_of, prefix_given, suffix_of}
pub use Rattle.ipnetwork_family.specs.Computed.PrefixNumber.{prefix_number_of}
pub use Rattle.ipnetwork_family.specs.ErrorTexts.{BadAddress, BadFormat, BadPrefix, BadSize, HasText, IsRefusal, RanOutOfMemory, Refusal, description_of, fault_of, refusal_of, refusal_text}
pub use Rattle.ipnetwork_family.specs.Family.{Family, HasClearTexts, NamesNetworkOf, ParsesNetworkOf, ReadsNetworkOf, text_length_of, text_of, v4_family, v6_family}
pub use Rattle.ipnetwork_family.specs.Faults.{SameError, SameJsonFault}
pub use Rattle.ipnetwork_family.specs.Ipv4NetworkText.{IsV4Suffix, NamesV4Network, ReadsV4Network}
pub use Rattle.ipnetwork_family.specs.Ipv6NetworkText.{IsV6Suffix, NamesV6Network, ReadsV6Network}
pub use Rattle.ipnetwork_family.specs.JsonValues.{ReadsValue, in_quotes, refusing}
pub use Rattle.ipnetwork_family.specs.Laws.{BetweenIsSubnet, BlockFits, BlockHasNoHostBits, BlockHasSameSet, CanonicalReadsBack, EndsLaw, FormatFaultIsPrinted, HasEnds, ListsMembers, MaskIsComputed, MaskIsConverted, MasksDiffer, MembersLaw, MembershipComputed, Nesting, OverlapByAddress, OverlapByEnds, OverlapSymmetric, SameErrorPrintsTheSame, SameSet, SubnetComesAfter, SubnetComputed, SubnetReflexive, SubnetTransitive}
pub use Rattle.ipnetwork_family.specs.Masks.{GivesPrefixOfMask}
unfoldable pub use Rattle.ipnetwork_family.specs.Network.{count_up}
pub use Rattle.ipnetwork_family.specs.Network.{HostBitsAreZero, IsCidrBlock, IsNetwork, IsNetworkAtMost, IsNetworkBefore, IsNoMask, Member, Network, Overlap, Subnet, block_at, block_of, block_size, high, low, mask_of, members, network_cmp, size_of}
pub use Rattle.ipnetwork_family.specs.NetworkText.{Alone, HasNoSuffix, HasSeveralSlashes, IsCause, IsNetworkByte, IsSplit, NamesNetwork, Suffixed, before_slash, network_text, slash, slashes}
pub use Rattle.ipnetwork_family.specs.Parsing.{Parses, ParsesAsItReads, ParsesV4Network, ParsesV6Network}
pub use Rattle.ipnetwork_family.specs.PrefixNumber.{IsNoPrefixNumber, IsNumeralOf, IsPrefixNumber, plus}
pub use Rattle.ipnetwork_family.specs.Private.Numerals.{IsNoNumeral}
pub use Rattle.ipnetwork_family.specs.Private.Slashes.{IsOnlySlash}
pub use Rattle.ipnetwork_family.specs.Private.Suffixes.{GivesNoPrefix, GivesPrefix, IsNoV4Suffix}
pub use Rattle.ipnetwork_family.specs.declared.error.CidrFault.{CidrFault}
pub use Rattle.ipnetwork_family.specs.declared.error.CidrFault.TheVariants.{Addr, Format, Prefix}
pub use Rattle.ipnetwork_family.specs.declared.error.IpNetworkError.{IpNetworkError}
pub use Rattle.ipnetwork_family.specs.declared.error.NetworkSizeError.TheVariants.{NetworkIsTooLarge}
pub use Rattle.ipnetwork_family.specs.declared.json.JsonFault.{JsonFault}
pub use Rattle.ipnetwork_family.specs.declared.json.JsonFault.TheVariants.{NotAString, Refused}
pub use Rattle.ipnetwork_family.specs.declared.mask_table.TheConstants.{MASKS}
unfoldable pub use Rattle.serde_json.proofs.OnLiterals.{serde_json_on_literals}
pub use Rattle.serde_json.specs.Data.{Data, array, depth, item, no_items, number, string, unsigned}
pub use Rattle.serde_json.specs.Find.{as_str}
pub use Rattle.serde_json.specs.Read.{max_depth, read}
pub use Rattle.serde_json.specs.Written.{compact_text}
pub use Rattle.std.proofs.Common.{Bool, Contains, Err, IsTrue, List, None, Ok, Option, Result, Some, [], ap, append-nil, ap₂, arith, bit_and, bit_or, bit_xor, cond, decimal, drop, false, get_or, inl, inr, leb, length, length-append, length-drop, length-take, lit<, lit≤, ltb, not, option_and_then, refl, set, subst, suc, sym, take, take-append-drop, true, unwrap_or, zero, ℕ, ⊎_elim, ◌%◌, ◌&&◌, ◌*◌, ◌++◌, ◌+◌, ◌-◌, ◌/◌, ◌<◌, ◌==◌, ◌^◌, ◌↔◌, ◌∙◌, ◌∷◌, ◌≡◌, ◌≢◌, ◌≤◌, ◌⊎◌}
pub use Rattle.std.proofs.Math.Nat.{div-div-eq-div-mul, div-lt_iff_lt-mul, div-mul-le_self, lt-div-mul-add, mul-div_cancel}
pub use Rattle.std.proofs.lemmas.Bool.{agree_below_at, and_parts, cases_lt, cond_both, eq-eqb, eqb-true, le-leb, le-ltb, leb-false, leb-true, lt-ltb, ltb-true, ne_eqb, true≢false}
pub use Rattle.std.proofs.lemmas.Bool.Decides.{Decides-eqb}
pub use Rattle.std.proofs.lemmas.Fmt.{decimal_is_IsNumeral, length-decimal-le}
pub use Rattle.std.proofs.lemmas.Int.Digits.{digits_more, digits_value_more, number_more, number_push}
pub use Rattle.std.proofs.lemmas.List.{append_cancel_left, drop-drop, drop_all, drop_at, drop_more, get_or-drop, get_or-take, get_or_at, length-set, length-take-le, take_all, take_at, take_more_set, take_rest}
pub use Rattle.std.proofs.lemmas.List.Folds.{concat-append}
pub use Rattle.std.proofs.lemmas.List.FromFn.{get_or-range_with_len, length-range_with_len}
pub use Rattle.std.proofs.lemmas.List.Sums.{sum_by-append, sum_by_more}
pub use Rattle.std.proofs.lemmas.Nat.{and_block, and_le_l, and_le_r, div-mul-add, le_or_l, le_or_r, leading_le, leading_length, mod-pow-add, mul-le, or_block, or_lt, or_shifted, pow-add, pow_below, pow_pos, shr_split, xor_lt, xor_shr}
pub use Rattle.std.proofs.lemmas.Nat.Bits.{and_high_mask, bit_at-lt, bit_at_and, bit_at_xor, ones_shr, same_from_bits}
pub use Rattle.std.proofs.lemmas.Option.{none-some, same_Some, slice_get-get_or, slice_get_past}
pub use Rattle.std.proofs.lemmas.Result.{err_from_is_err_and}
pub use Rattle.std.proofs.lemmas.Slice.Eq.{slice_eq-Decides}
pub use Rattle.std.proofs.lemmas.Str.{IsCharBoundary-after_ascii, digit_value_digit}
pub use Rattle.std.proofs.lemmas.Str.Parse.{digit_at, digit_from_value, tells_all_ascii_digits, tells_digits}
pub use Rattle.std.specs.Bool.{MatchBool}
pub use Rattle.std.specs.Char.{IsAsciiDigit, IsNotAsciiDigit, digit_value}
pub use Rattle.std.specs.Cmp.{nat_cmp_is}
pub use Rattle.std.specs.Cmp.Lexicographic.{pointwise}
unfoldable pub use Rattle.std.specs.Fmt.{digits}
pub use Rattle.std.specs.Fmt.{HasWrittenStyled, WritesInCalls}
pub use Rattle.std.specs.Int.{IsInRange}
pub use Rattle.std.specs.Int.Bits.{or_zero_r, xor_add_and, xor_self}
unfoldable pub use Rattle.std.specs.Int.Count.{count_leading_zeros, count_trailing_zeros}
pub use Rattle.std.specs.Int.Count.{leading_unique, under}
pub use Rattle.std.specs.Iterator.{MakesProgress, item_count}
pub use Rattle.std.specs.List.{AllByRecursion, AllZip, FoldsTo, after_first, join_with_byte, position_or_len, sum_by}
pub use Rattle.std.specs.List.Sorted.{IsStrictlyIncreasing}
pub use Rattle.std.specs.Option.{MatchOption, SomeIff}
pub use Rattle.std.specs.Ordering.{nat_cmp, ordering_then}
pub use Rattle.std.specs.Prelude.{MatchResult, String, codes, map, nat_le, nat_lt, replicate, slice_get, string_bytes}
pub use Rattle.std.specs.Str.{IsCharBoundary, IsUtf8, all_ascii_digits}
pub use Rattle.std.specs.Str.Parse.{AllDigits, digits_value, digits_value_after, without_leading_plus}
pub use Rattle.std.specs.declared.alloc.Global.{Global}
pub use Rattle.std.specs.declared.cmp.Ordering.TheVariants.{Equal, Greater, Less}
pub use Rattle.std.specs.declared.fmt.Formatter.{Formatter}
