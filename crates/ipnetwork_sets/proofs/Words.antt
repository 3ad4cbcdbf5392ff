-- The words of this crate and of those below, passed on from one place.
pub use Rattle.ipnetwork.specs.IpNetworks.{IpMember}
pub use Rattle.ipnetwork.specs.declared.ip_network.IpNetwork.{IpNetwork}
pub use Rattle.ipnetwork.specs.declared.ip_network.IpNetwork.TheVariants.{V4, V6}
pub use Rattle.ipnetwork_addr.specs.declared.ip.IpAddr.{IpAddr}
pub use Rattle.ipnetwork_blocks.proofs.Addresses.{alike, at_most, less, not_at_most, not_less}
pub use Rattle.ipnetwork_blocks.proofs.AggregateFront.{after_all, joined_push, joined_take}
pub use Rattle.ipnetwork_blocks.proofs.AggregateJoined.{joined_is_aggregate}
pub use Rattle.ipnetwork_blocks.proofs.AggregateMapped.{read_held}
pub use Rattle.ipnetwork_blocks.proofs.AggregateUnions.{in_union_push, union_append}
pub use Rattle.ipnetwork_blocks.proofs.BlocksFrom.{Begins, block_from, lower_begins, upper_begins}
pub use Rattle.ipnetwork_blocks.proofs.Families.{IsFamily, in_family, lies_in_family, through, v4_family, v4_of_both, v4_own, v6_family, v6_of_both, v6_own}
pub use Rattle.ipnetwork_blocks.proofs.HalfBlocks.{halves_join, nothing_between}
pub use Rattle.ipnetwork_blocks.proofs.HalfParts.{PartOf, least_of_halves, no_part, whole_part}
pub use Rattle.ipnetwork_blocks.proofs.LeastLists.{contains_cons, contains_head, contains_nil, contains_tail, least_of_none, least_of_one, least_of_same, least_of_two, least_unique, own_address, pairs_append, pairs_head, pairs_tail}
pub use Rattle.ipnetwork_blocks.proofs.MaximalBlocks.{is_shortest, member_or_not}
pub use Rattle.ipnetwork_blocks.proofs.RangeLists.{cond_by, least_from_after, least_from_to}
pub use Rattle.ipnetwork_blocks.proofs.UnionLaws.{union_of_list, union_of_none}
pub use Rattle.ipnetwork_blocks.proofs.WiderBlocks.{parent_made}
pub use Rattle.ipnetwork_blocks.proofs.WidestBlock.{begins, begins_alone}
pub use Rattle.ipnetwork_blocks.specs.Aggregate.{InUnion, IsAggregate, LiesInUnion, SameUnion}
pub use Rattle.ipnetwork_blocks.specs.AggregateIp.{IsIpAggregate, as_v4, as_v6}
pub use Rattle.ipnetwork_blocks.specs.AggregateIpLaws.{InIpUnion, LiesInIpUnion}
pub use Rattle.ipnetwork_blocks.specs.AggregateLaws.{AggregateHasNetworks, AggregateHasOneBlock, AggregateHasUnion, AggregateIsApart}
pub use Rattle.ipnetwork_blocks.specs.Exclusion.{InDifference}
pub use Rattle.ipnetwork_blocks.specs.LeastList.{IsLeastList, IsMaximalIn, LiesIn}
pub use Rattle.ipnetwork_blocks.specs.LeastListLaws.{IsShortest, RangeIsShortest}
pub use Rattle.ipnetwork_blocks.specs.Private.Joining.{AreHalves, AreJoined, Follows}
unfoldable pub use Rattle.ipnetwork_blocks.specs.Private.RangeList.{blocks_within}
pub use Rattle.ipnetwork_blocks.specs.Ranges.{FromTo}
pub use Rattle.ipnetwork_blocks.specs.Supernets.{parent}
pub use Rattle.ipnetwork_family.proofs.Blocks.{block_begins, block_fits_too, block_same_set, coarser_size, div_within, has_ends, high_fits, member_within, membership_computed, nested, overlap_by_address, shares_address, size_pos, subnet_from, subnet_prefix, within_member}
pub use Rattle.ipnetwork_family.proofs.BlocksAt.{block_at_holds, block_at_network, block_at_subnet}
pub use Rattle.ipnetwork_family.proofs.Members.{length-count_up, lists_members}
pub use Rattle.ipnetwork_family.specs.Bits.{SharesBits}
pub use Rattle.ipnetwork_family.specs.Computed.Network.{is_member}
pub use Rattle.ipnetwork_family.specs.Family.{text_of}
pub use Rattle.ipnetwork_family.specs.Network.{HostBitsAreZero, IsCidrBlock, IsNetwork, Member, Network, Overlap, Subnet, block_at, block_of, block_size, high, low, members}
pub use Rattle.ipnetwork_family.specs.declared.error.NetworkSizeError.{NetworkSizeError}
pub use Rattle.ipnetwork_sets.specs.ChangeLaws.{AddedHas, TakenHas}
pub use Rattle.ipnetwork_sets.specs.CountLaws.{CommonPartAddsUp, DifferenceAddsUp, SetAddsUp, SetHasFewerBlocks}
pub use Rattle.ipnetwork_sets.specs.Counts.{FitsNumber, HasCount, count_number, total}
pub use Rattle.ipnetwork_sets.specs.Equality.{same_blocks, same_network}
pub use Rattle.ipnetwork_sets.specs.FreeBlocks.{IsFirstFree, IsFreeBlock, NoBlockIsFree}
pub use Rattle.ipnetwork_sets.specs.IpEquality.{same_ip_blocks}
pub use Rattle.ipnetwork_sets.specs.IpSets.{AreIpDisjoint, ChangesTo, HasTooLittleRoom, InIpBoth, InIpComplement, InIpEither, InIpFirstAlone, IsIpAddressSet, IsIpLeastList, IsIpWithin, MeetsIpUnion, v4_then_v6}
pub use Rattle.ipnetwork_sets.specs.Laws.{CommonPartIsShortest, DifferenceIsShortest, FreePartIsShortest, UnionIsShortest}
unfoldable pub use Rattle.ipnetwork_sets.specs.Private.LeastBlocks.{all_from, common_blocks, either_blocks, in_union, is_from, least_blocks, least_within, left_blocks}
pub use Rattle.ipnetwork_sets.specs.Private.Places.{HasRoom, IsBefore, IsPlace, JoinsBefore, JoinsBehind, NoHalfBefore, NoHalfBehind}
pub use Rattle.ipnetwork_sets.specs.Private.Remainder.{HasNoPart, InLeft, IsAtHand, IsFreeRange, IsFrom, IsNextPart, Skips, TakesPart, count_at_hand}
unfoldable pub use Rattle.ipnetwork_sets.specs.Private.Touching.{put_in_front, runs}
pub use Rattle.ipnetwork_sets.specs.Private.Touching.{Touches, runs_left}
pub use Rattle.ipnetwork_sets.specs.Private.Search.{IsLastUpTo, IsSplitAt, NoneUpTo}
pub use Rattle.ipnetwork_sets.specs.Private.Together.{EndsAt, IsFirst, IsGrowing, IsLater, IsRun, at_hand}
pub use Rattle.ipnetwork_sets.specs.Private.Totals.{capped}
pub use Rattle.ipnetwork_sets.specs.RangeLists.{AreBlocksOf, InRanges, IsRangeList}
pub use Rattle.ipnetwork_sets.specs.Sets.{AddsFirstOfLeastList, AddsLeastList, AreDisjoint, HoldSet, InBoth, InComplement, InEither, InFirstAlone, InNetworkAlone, IsAddressSet, IsWithin, MeetsUnion}
pub use Rattle.ipnetwork_sets.specs.Texts.{lines_of}
pub use Rattle.ipnetwork_sets.specs.declared.address_count.AddressCount.{AddressCount}
pub use Rattle.ipnetwork_sets.specs.declared.address_count.AddressCount.TheVariants.{AllOfIpv6, Number}
pub use Rattle.std.proofs.Common.{Bool, Err, IfOk, IsTrue, List, MatchOption, None, Ok, OnErr, OnOk, Option, Result, Some, [], ap, append_assoc, arith, cond, decimal, drop, false, get_or, inl, inr, is_some, leb, length, map, min, not, of_calls, refl, rules, set, subst, suc, sym, take, true, true≢false, vec_capacity, zero, ℕ, ⊎_elim, ◌&&◌, ◌*◌, ◌++◌, ◌+◌, ◌-◌, ◌/◌, ◌<◌, ◌^◌, ◌||◌, ◌↔◌, ◌∙◌, ◌∷◌, ◌≡◌, ◌≤◌, ◌⊎◌}
pub use Rattle.std.proofs.Math.Nat.{div-mul-le_self, min-eq_left, min-eq_right, min-le_right}
pub use Rattle.std.proofs.Math.Pow.{pow_mono}
pub use Rattle.std.proofs.Math.Seq.{take-suc}
pub use Rattle.std.proofs.Output.{has_written_append, has_written_of_eq, has_written_styled_append, has_written_styled_of_eq}
pub use Rattle.std.proofs.lemmas.Bool.{and_parts, cases_eq, cases_lt, cases_order, eq-eqb, iff_false, le-leb, leb-false, leb-true, lt-leb, ne_eqb}
pub use Rattle.std.proofs.lemmas.List.{append-nil, drop-map, drop-set-lt, drop_more, flat_map_more, get_or-drop, get_or-map, get_or-take, get_or_default, length-append, length-drop, length-map, length-set, length-take, length-take-le, map-append, map-id, set_split, take-append-drop, take-append-le, take-map, take_all, take_at, take_more, take_more_set}
pub use Rattle.std.proofs.lemmas.List.Elements.{All-append, All-cons, All-contains, All-drop, All-rest, Contains-append_cases, Contains-append_left, Contains-append_right, Contains-get_or, filter_map-append}
pub use Rattle.std.proofs.lemmas.List.Folds.{Any-from_list_any, list_any-from_Any}
pub use Rattle.std.proofs.lemmas.List.Kept.{AllPairs-cons, AllPairs-from_increasing}
pub use Rattle.std.proofs.lemmas.List.Sorted.{IsPartitionPoint-from_clause, IsPartitionedBy-leb}
pub use Rattle.std.proofs.lemmas.Result.{IfOk-weaker, on_err_weaker, on_ok_weaker}
pub use Rattle.std.specs.Cmp.Lexicographic.{pointwise}
unfoldable pub use Rattle.std.specs.Fmt.{digits}
pub use Rattle.std.specs.Fmt.{HasWritten, HasWrittenStyled, IsFlush, IsPlainFormatter}
pub use Rattle.std.specs.Iterator.{MakesProgress, item_count}
pub use Rattle.std.specs.Int.{from_bool}
pub use Rattle.std.specs.List.{All, AllPairs, Contains, filter_map, flat_map}
pub use Rattle.std.specs.List.Sorted.{IsNonDecreasingBy, IsPartitionPoint}
pub use Rattle.std.specs.Option.{option_map}
pub use Rattle.std.specs.Ordering.{is_eq}
pub use Rattle.std.specs.Prelude.{nat_le}
pub use Rattle.std.specs.Result.{IsErr, IsOk}
