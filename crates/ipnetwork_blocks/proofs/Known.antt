-- The words and the lemmas that answers cite, passed on from one place.

pub use Rattle.ipnetwork_blocks.proofs.Words.{All, All-permutation, All-set, AllWithin, AreHalves, AreJoined, Contains, FromTo, HostBitsAreZero, InDifference, IpNetwork, IsAggregate, IsCidrBlock, IsLeastList, IsMaximalIn, IsNetwork, IsPermutation, IsPermutation-map, IsPermutation-trans, IsRun, IsSpanning, IsV4, IsV6, LiesInLast, List, Network, SameUnion, SharesBits, [], ap, arith, block_at, block_begins, block_fits_too, block_of, block_size, get_or, get_or_default, high, iff_false, le-leb, length, length-map, length-take-le, list_falls, low, map, map-set, mask_of, max, min, set, subst, sym, take, take-map, the_network, true≢false, ℕ, ◌*◌, ◌++◌, ◌+◌, ◌-◌, ◌<◌, ◌^◌, ◌∙◌, ◌∷◌, ◌≡◌, ◌≢◌, ◌≤◌}
pub use Rattle.ipnetwork_blocks.proofs.Addresses.{differ, differ_not, empty_mask, full_mask, less, not_less, other_network, same_network}
pub use Rattle.ipnetwork_blocks.proofs.AggregateClearing.{IsClearing, aggregate_of_sorted, cleared, clearing_more, clearing_starts}
pub use Rattle.ipnetwork_blocks.proofs.AggregateFront.{IsJoining, joining_more, joining_starts, joining_stops}
pub use Rattle.ipnetwork_blocks.proofs.AggregateIp.{either_aggregate, one_behind, one_first}
pub use Rattle.ipnetwork_blocks.proofs.AggregateIpLaws.{ip_has_networks}
pub use Rattle.ipnetwork_blocks.proofs.AggregateLaws.{aggregate_has_networks, aggregate_has_one_block, aggregate_has_union, aggregate_is_apart, aggregate_is_least, blocks_are_needed}
pub use Rattle.ipnetwork_blocks.proofs.AggregateMapped.{in_order_from_sort, lies_in_last, lies_in_none, read_held, read_map}
pub use Rattle.ipnetwork_blocks.proofs.AggregatePass.{IsPassing, passed_all, passing_after_last, passing_block, passing_places, passing_skips_last, passing_starts}
pub use Rattle.ipnetwork_blocks.proofs.BlockRuns.{StartsRun, Steps, list_of, run_of, starts_at, step_at_last, step_before_last}
pub use Rattle.ipnetwork_blocks.proofs.ExcludedCounts.{all_left, count_inside, none_left}
pub use Rattle.ipnetwork_blocks.proofs.ExcludedParts.{least_apart, least_around, least_before, least_behind}
pub use Rattle.ipnetwork_blocks.proofs.FollowingBlock.{followed}
pub use Rattle.ipnetwork_blocks.proofs.HostLists.{ipv4_between, ipv6_rest, one_taken, two_members}
pub use Rattle.ipnetwork_blocks.proofs.LeastLists.{own_address}
pub use Rattle.ipnetwork_blocks.proofs.MaximalBlocks.{range_is_shortest}
pub use Rattle.ipnetwork_blocks.proofs.NumberedSubnet.{IsNumber, all_below, begins_within, few_shifted, is_below, numbered, offset_fits}
pub use Rattle.ipnetwork_blocks.proofs.PrecedingBlock.{preceded}
pub use Rattle.ipnetwork_blocks.proofs.RangeCounts.{count_from_to}
pub use Rattle.ipnetwork_blocks.proofs.RangeLists.{ends_at_last, goes_on, least_from_after, least_from_to, not_before}
pub use Rattle.ipnetwork_blocks.proofs.SpanningBlock.{all_taken, item_of, not_empty, one_more_taken, spans_both, spans_more, spans_once, spans_one}
pub use Rattle.ipnetwork_blocks.proofs.UnionLaws.{union_of_list, union_of_none}
pub use Rattle.ipnetwork_blocks.proofs.WiderBlocks.{IsHalf, block_made, lower_answer, parent_made, supernet_answer, upper_answer}
pub use Rattle.ipnetwork_blocks.proofs.WidestBlock.{at_first, ends_within, widest_fits, widest_half}
