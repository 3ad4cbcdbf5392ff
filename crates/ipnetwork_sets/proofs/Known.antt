-- The words and the lemmas that answers cite, passed on from one place.
unfoldable pub use Rattle.ipnetwork_sets.proofs.Words.{common_blocks, digits, either_blocks, left_blocks}
pub use Rattle.ipnetwork_sets.proofs.Words.{AddressCount, AddsFirstOfLeastList, All, All-rest, AreDisjoint, AreJoined, Err, Follows, FromTo, HasCount, HasTooLittleRoom, HasWritten, HasWrittenStyled, HoldSet, IfOk, InEither, InIpEither, InIpUnion, InUnion, IpNetwork, IsAddressSet, IsAtHand, IsCidrBlock, IsErr, IsFlush, IsGrowing, IsIpAddressSet, IsLater, IsLeastList, IsOk, IsPartitionPoint-from_clause, IsPartitionedBy-leb, IsPlace, IsPlainFormatter, IsSplitAt, IsTrue, IsWithin, LiesInUnion, List, MeetsUnion, Member, Network, Ok, OnErr, Option, Result, Skips, Some, [], alike, ap, arith, as_v4, as_v6, at_hand, at_most, begins, begins_alone, block_same_set, capped, contains_head, count_at_hand, count_number, decimal, drop, filter_map, get_or_default, has_ends, has_written_append, has_written_of_eq, has_written_styled_append, has_written_styled_of_eq, high, iff_false, inl, inr, is_eq, le-leb, least_unique, leb-true, length, length-map, less, lies_in_family, lines_of, low, map, map-id, nat_le, not_at_most, not_less, of_calls, option_map, own_address, parent_made, read_held, refl, rules, same_blocks, subst, suc, sym, take, take_all, take_more, text_of, through, total, true≢false, v4_family, v4_own, v6_family, v6_own, vec_capacity, ℕ, ◌++◌, ◌+◌, ◌-◌, ◌<◌, ◌↔◌, ◌∙◌, ◌∷◌, ◌≡◌, ◌≤◌}
pub use Rattle.ipnetwork_sets.proofs.ChangeLaws.{added_has, taken_has}
pub use Rattle.ipnetwork_sets.proofs.Changed.{IsLeft, added_is_set, grew_by_more, grew_by_one, left_is_set, left_written, nothing_added, nothing_taken}
pub use Rattle.ipnetwork_sets.proofs.Checked.{check_goes_on, checked, set_follows, set_has_block}
pub use Rattle.ipnetwork_sets.proofs.CollectedBlocks.{IsCollected, all_are_set, collecting_ends, collecting_goes_on, collecting_had_no_room, collecting_starts, failed, pushing_had_no_room}
pub use Rattle.ipnetwork_sets.proofs.CommonPart.{common_none_first, common_none_second, gives_first, gives_second, skips}
pub use Rattle.ipnetwork_sets.proofs.CountLaws.{common_part_adds_up, difference_adds_up, set_adds_up}
pub use Rattle.ipnetwork_sets.proofs.Equal.{pointwise_pairs}
pub use Rattle.ipnetwork_sets.proofs.FewerBlocks.{set_has_fewer_blocks}
pub use Rattle.ipnetwork_sets.proofs.FreeBlocks.{IsPassing, answers, none_free, passing_goes_on}
pub use Rattle.ipnetwork_sets.proofs.FreeRanges.{between, free_up_to, free_whole, not_before, others_are_set, skips_before, skips_block, skips_whole}
pub use Rattle.ipnetwork_sets.proofs.FromRanges.{HasRanges, IsOnTheWay, IsPushed, adds_all, adds_first, adds_first_of_none, adds_in_vain, adds_none, adds_one, front_stays, has_none, has_one_more, numbers, pushing_goes_on, set_of_ranges, way_goes_on, way_had_no_room, way_starts}
pub use Rattle.ipnetwork_sets.proofs.IpChanges.{adding, changed_v4, changed_v6, taking}
pub use Rattle.ipnetwork_sets.proofs.IpFamilies.{aggregate_of_lists, aggregate_of_parts, in_v4, in_v6, meets_in_family, one_more, set_of_families}
pub use Rattle.ipnetwork_sets.proofs.IpFamilySets.{alone, both, count_of_same, disjoint, either, least_of_families, rest, within}
pub use Rattle.ipnetwork_sets.proofs.IpQuestions.{asked_of_both, length_of_both, no_blocks, refused_by_v4}
pub use Rattle.ipnetwork_sets.proofs.IpRooms.{too_little_for_all, too_little_v4, too_little_v6}
pub use Rattle.ipnetwork_sets.proofs.IpSetLaws.{one_ip_list}
pub use Rattle.ipnetwork_sets.proofs.JoinedAround.{IsJoinedTo, joining_before, joining_begins, joining_behind, joining_ends, told_before, told_behind}
pub use Rattle.ipnetwork_sets.proofs.LeastBlocks.{common_is_least, either_is_least}
pub use Rattle.ipnetwork_sets.proofs.LeftOver.{left_length, left_over, meets_none, meets_some}
pub use Rattle.ipnetwork_sets.proofs.LeftSets.{count_of_mapped, difference_starts, ends_in_whole, network_starts, one_block_is_set, takes_block, takes_falls, takes_state, takes_whole_part}
pub use Rattle.ipnetwork_sets.proofs.Lists.{no_items, read_as, read_pair, refused, set_block, set_of_aggregate}
pub use Rattle.ipnetwork_sets.proofs.Placed.{before_all, before_last, before_none, placed_between}
pub use Rattle.ipnetwork_sets.proofs.RoomMade.{IsWriting, next_fits, one_written, writing_ends, writing_goes_on, writing_starts}
pub use Rattle.ipnetwork_sets.proofs.RunLists.{IsRunning, ahead_runs, run_ends, run_goes_on, run_is_last, run_starts}
pub use Rattle.ipnetwork_sets.proofs.Searched.{covers_by_last, covers_none, holds_by_last, none_holds, not_falling, overlaps_by_last, overlaps_none, split_last, split_none_at, splits, told}
pub use Rattle.ipnetwork_sets.proofs.SetLaws.{common_is_set, common_is_shortest, difference_is_shortest, disjoint_answer, either_is_set, free_is_shortest, union_is_shortest, within_answer}
pub use Rattle.ipnetwork_sets.proofs.SharedBits.{begins_before, ends_by_bits, ends_too_late, halves_by_bits, halves_share, overlap_if_second, overlaps_first, second_if_overlap}
pub use Rattle.ipnetwork_sets.proofs.Steps.{tail_is_set}
pub use Rattle.ipnetwork_sets.proofs.TextLaws.{next_line}
pub use Rattle.ipnetwork_sets.proofs.Together.{either_none, first_begins, first_is_block, goes_within, growing_ends, growing_starts, grows_by_first, grows_by_second, next_goes, next_is_set, next_steps, one_is_range, range_of, second_begins}
pub use Rattle.ipnetwork_sets.proofs.Totals.{all_counted, counts_more, has_count}
pub use Rattle.ipnetwork_sets.proofs.WholeSpace.{complement_is_least}
