-- The words of this crate and of those below, passed on from one place.
pub use Rattle.ipnetwork.specs.Computed.IpNetworkText.{ip_network_of}
pub use Rattle.ipnetwork.specs.IpNetworkText.{NamesIpNetwork, ReadsIpNetwork, ip_network_text}
pub use Rattle.ipnetwork.specs.IpNetworks.{IpMember, IpSubnet, ip_high}
pub use Rattle.ipnetwork.specs.declared.ip_network.IpNetwork.{IpNetwork}
pub use Rattle.ipnetwork.specs.declared.ip_network.IpNetwork.TheVariants.{V4, V6}
pub use Rattle.ipnetwork_addr.proofs.ComputedV4.{v4_of_sound}
unfoldable pub use Rattle.ipnetwork_addr.specs.Computed.Ipv6Text.{gap_below, v6_of}
pub use Rattle.ipnetwork_addr.specs.Digits.{digits_in, octets_of_v6}
pub use Rattle.ipnetwork_addr.specs.Either.{NamesIp}
pub use Rattle.ipnetwork_addr.specs.Ipv4Text.{NamesV4}
pub use Rattle.ipnetwork_addr.specs.declared.ip.IpAddr.{IpAddr}
pub use Rattle.ipnetwork_blocks.proofs.AggregateMapped.{in_order_from_sort, read_map}
pub use Rattle.ipnetwork_blocks.proofs.LeastLists.{contains_cons, contains_head, contains_nil, contains_tail, least_unique, own_address}
pub use Rattle.ipnetwork_blocks.specs.Aggregate.{InUnion, IsAggregate}
pub use Rattle.ipnetwork_blocks.specs.AggregateLaws.{AggregateHasOneBlock}
pub use Rattle.ipnetwork_blocks.specs.LeastList.{IsLeastList}
pub use Rattle.ipnetwork_blocks.specs.Private.Joining.{AreInOrder}
pub use Rattle.ipnetwork_blocks.specs.Ranges.{FromTo}
pub use Rattle.ipnetwork_c.specs.Answers.{HasSize, IfFit, IsFlag, IsNth, PutsText, ReadsInto, StandsIn, WritesMember, WritesPrefix}
pub use Rattle.ipnetwork_c.specs.Blocks.{RangeOperation, WritesSubnet}
pub use Rattle.ipnetwork_c.specs.Columns.{AnswersEach, AnswersRows, AsksEach, WritesFlags, member_flag}
pub use Rattle.ipnetwork_c.specs.Either.{BlankV4, BlankV6, HoldsAddress, HoldsIp, IpPrefixFits, MemberQuery, NoAddress, NoIpNetwork, OfBoth, OfNetwork, ReadsAddress, ReadsWithCause, StandsForIp, TellsAddress, TellsOfBoth, WritesUnmapped, address_in, held_address, ip_in}
pub use Rattle.ipnetwork_c.specs.Either.NoIpNetwork.{NoFamily, NoPrefix}
pub use Rattle.ipnetwork_c.specs.Held.{HoldsV4, HoldsV6, PrefixFits, number_of_octets, v4_in, v6_in}
pub use Rattle.ipnetwork_c.specs.Indexes.{AreLeastParts, BeginBefore, IsIndexOf, MakesIndex, SetRows, address_at, span}
pub use Rattle.ipnetwork_c.specs.Lists.{Aggregates, FindsIn, PutsBlocks, SetQuery, StandInFront}
pub use Rattle.ipnetwork_c.specs.Numbers.{address, fault_number, fault_texts, format, no_family, no_mask, no_member, no_offsets, no_range, no_set, ok, order_number, prefix, short_buffer}
pub use Rattle.ipnetwork_c.specs.Outcomes.{Finds, IsFault, Needs, Puts, Unless, Writes}
pub use Rattle.ipnetwork_c.specs.Outcomes.Unless.{Nothing, On}
pub use Rattle.ipnetwork_c.specs.PrintedColumns.{FirstRefused, HasColumnRoom, PrintsColumn, PrintsRows, address_text, ip_fits, ip_text, v4_fits, v4_refused, v4_text, v6_fits, v6_refused, v6_text}
pub use Rattle.ipnetwork_c.specs.Private.Cuts.{AreCutsOf, AreEndsOf, ArePlacesUpTo, IsAlone, IsWrittenUpTo, firsts}
pub use Rattle.ipnetwork_c.specs.Private.Halves.{OfHalf, Tells}
pub use Rattle.ipnetwork_c.specs.Private.Indexes.{HasStarts, LastBefore}
pub use Rattle.ipnetwork_c.specs.Private.Kept.{SurelyFits, kept_by}
pub use Rattle.ipnetwork_c.specs.Private.Sets.{EndDoesNotFit, EndFits, IsBetween, LastUpTo, NextAfter}
pub use Rattle.ipnetwork_c.specs.Private.Tables.{place_cmp}
pub use Rattle.ipnetwork_c.specs.Private.Writing.{HasBlocks, PutsItems, PutsSet}
pub use Rattle.ipnetwork_c.specs.Ranges.{AreMadeOf, AreRangesOf, EndsAt, IsCut, IsLongestAt, MakesNumberedRanges, MakesRanges, PlaceQuery, RangeQuery, RangeRows, no_place, number_at, place_before}
pub use Rattle.ipnetwork_c.specs.Searches.{ComesTo, LastFits, PassesBy, StandsAt}
pub use Rattle.ipnetwork_c.specs.Searches.ComesTo.{First}
pub use Rattle.ipnetwork_c.specs.Sets.{BothAreSets, BothFit, SetOperation}
pub use Rattle.ipnetwork_c.specs.Tables.{FindsLongest, IsTable, IsTableOf, MakesTable, TableQuery, TableRows, row_block}
pub use Rattle.ipnetwork_c.specs.TextColumns.{AreOffsets, ReadsColumn, ReadsRows, ip_reads, ip_reads_with_cause, row_count, row_text, v4_reads, v6_reads}
pub use Rattle.ipnetwork_c.specs.declared.address.AddressInC.{AddressInC}
pub use Rattle.ipnetwork_c.specs.declared.set_operations.Operation.{Operation}
pub use Rattle.ipnetwork_c.specs.declared.set_operations.Operation.TheVariants.{Difference, Intersection, Union}
pub use Rattle.ipnetwork_c.specs.declared.structs.IpInC.{IpInC}
pub use Rattle.ipnetwork_c.specs.declared.structs.IpWithCauseInC.{IpWithCauseInC}
pub use Rattle.ipnetwork_c.specs.declared.structs.Ipv4InC.{Ipv4InC}
pub use Rattle.ipnetwork_c.specs.declared.structs.Ipv6InC.{Ipv6InC}
pub use Rattle.ipnetwork_family.proofs.Blocks.{member_within, membership_computed, shares_address, size_pos, subnet_from, subnet_prefix, within_member}
pub use Rattle.ipnetwork_family.proofs.BlocksAt.{block_at_network, block_at_subnet}
pub use Rattle.ipnetwork_family.proofs.Members.{get_or-count_up, length-count_up}
pub use Rattle.ipnetwork_family.proofs.Slashes.{cut_at}
pub use Rattle.ipnetwork_family.specs.Bits.{SharesBits}
pub use Rattle.ipnetwork_family.specs.Computed.Ipv4NetworkText.{v4_network_of}
pub use Rattle.ipnetwork_family.specs.Computed.Ipv6NetworkText.{v6_network_of}
pub use Rattle.ipnetwork_family.specs.Computed.Network.{is_member}
pub use Rattle.ipnetwork_family.specs.Ipv4NetworkText.{ReadsV4Network}
pub use Rattle.ipnetwork_family.specs.Ipv6NetworkText.{NamesV6Network, ReadsV6Network}
pub use Rattle.ipnetwork_family.specs.Network.{IsCidrBlock, IsNetwork, IsNetworkAtMost, IsNoMask, Member, Network, Subnet, block_at, block_size, high, low, mask_of, members}
pub use Rattle.ipnetwork_family.specs.NetworkText.{HasSeveralSlashes, Suffixed, before_slash, slashes}
pub use Rattle.ipnetwork_family.specs.declared.error.CidrFault.{CidrFault}
pub use Rattle.ipnetwork_family.specs.declared.error.CidrFault.TheVariants.{Addr, Format, Prefix}
pub use Rattle.ipnetwork_sets.proofs.Lists.{not_below, read_pair}
pub use Rattle.ipnetwork_sets.proofs.Searched.{holds_by_last, none_holds, split_last, split_none_at, weakly}
pub use Rattle.ipnetwork_sets.specs.Laws.{CommonPartIsShortest, UnionIsShortest}
pub use Rattle.ipnetwork_sets.specs.Private.Search.{IsLastUpTo, IsSplitAt, NoneUpTo}
pub use Rattle.ipnetwork_sets.specs.Sets.{InBoth, InEither, IsAddressSet}
pub use Rattle.std.proofs.Common.{Bool, IsTrue, List, [], add-one, ap, append_assoc, ap₂, arith, below_more, cond, drop, drop-cons, false, get_or, get_or-set_other, get_or-set_same, inl, inr, leb, length, lit<, lit≤, map, nat_eq, of_z, refl, rules, slice_set, subst, suc, sym, take, take-append-drop, to_z, true, true≢false, w32, zero, zero-add, ℕ, ℤ, ⊎_elim, ◌%◌, ◌&&◌, ◌*◌, ◌++◌, ◌+◌, ◌-◌, ◌/◌, ◌<◌, ◌^◌, ◌↔◌, ◌∙◌, ◌∷◌, ◌≡◌, ◌≢◌, ◌≤◌, ◌⊎◌}
pub use Rattle.std.proofs.Math.Nat.{div-div-eq-div-mul, div-eq_of_lt, div-lt_iff_lt-mul, min-eq_left, min-le_left, mul-le-mul_right, two-pow-succ}
pub use Rattle.std.proofs.Math.Pow.{pow-lt}
pub use Rattle.std.proofs.Math.Seq.{drop-append-add, drop-append_seam, set-append_seam, take-append_seam, take-suc}
pub use Rattle.std.proofs.lemmas.Bool.{and_parts, cases_lt, eq-eqb, eqb-false, eqb-true, iff_false, le-leb, leb-true, lt-ltb, ltb-true}
pub use Rattle.std.proofs.lemmas.Cmp.{on_total, ranked, then_total}
pub use Rattle.std.proofs.lemmas.Fn.{always_returns_same}
pub use Rattle.std.proofs.lemmas.Grind.{take-set_at}
pub use Rattle.std.proofs.lemmas.Int.Digits.{number_push}
pub use Rattle.std.proofs.lemmas.Iterator.{items_from_drains}
pub use Rattle.std.proofs.lemmas.Iterator.Consumers.{YieldsList-from_first}
pub use Rattle.std.proofs.lemmas.List.{append-nil, drop-drop, drop-set-lt, ext_get_or, get_or-append-add, get_or-drop, get_or-map, get_or-take, get_or_default, length-append, length-map, length-set, length-take-le, map-append, map-set, take-append-le, take-map, take_all, take_more, take_rest}
pub use Rattle.std.proofs.lemmas.List.Concat.{flat_map-append}
pub use Rattle.std.proofs.lemmas.List.Elements.{All-append, All-cons, All-map, All-nil, Contains-append_cases, Contains-append_left, Contains-append_right, Contains-get_or}
pub use Rattle.std.proofs.lemmas.List.Folds.{length-flat_map-take}
pub use Rattle.std.proofs.lemmas.List.FromFn.{get_or-range_with_len, length-range_with_len}
pub use Rattle.std.proofs.lemmas.List.Sorted.{All-permutation, Contains-permutation, IsPermutation-map, IsPermutation-sym, length_permutation, ranks_by, sorted_far, sum_by-IsPermutation}
pub use Rattle.std.proofs.lemmas.Nat.{div-add-mod', div_below, le-div, pow-add, pow_pos}
pub use Rattle.std.proofs.lemmas.Option.{IfSome_then, get_or_from_slice_get, none-some, same_Some, slice_get-get_or, slice_get_past, slice_get_read, slice_get_within}
pub use Rattle.std.specs.Cmp.{IsStrictWeakOrder, IsTotalOrder, nat_cmp_is, nat_cmp_total}
unfoldable pub use Rattle.std.specs.Fmt.{digits}
pub use Rattle.std.specs.Fn.{Called, ComparesAs}
pub use Rattle.std.specs.Int.{from_bool}
pub use Rattle.std.specs.Iterator.{Yields, YieldsFirstBy}
pub use Rattle.std.specs.List.{All, AllPairs, Contains, flat_map, range_with_len}
pub use Rattle.std.specs.List.Sorted.{IsPermutation, IsSorted, IsSortedBy}
pub use Rattle.std.specs.Ordering.{MatchOrdering, is_lt, nat_cmp, ordering_then}
pub use Rattle.std.specs.Prelude.{Err, None, Ok, Option, Result, Some, codes, min, negsuc, not, pos, replicate, slice_get, ⊤}
pub use Rattle.std.specs.declared.cmp.Ordering.{Ordering}
pub use Rattle.std.specs.declared.cmp.Ordering.TheVariants.{Equal, Greater, Less}
