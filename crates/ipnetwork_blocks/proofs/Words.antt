-- The words of this crate and of those below, passed on from one place.
pub use Rattle.ipnetwork.specs.IpNetworks.{IpMember, IpSubnet, IsIpNetwork, IsV4, IsV6}
pub use Rattle.ipnetwork.specs.Laws.{AsksItsFamily}
pub use Rattle.ipnetwork.specs.declared.ip_network.IpNetwork.{IpNetwork}
pub use Rattle.ipnetwork.specs.declared.ip_network.IpNetwork.TheVariants.{V4, V6}
pub use Rattle.ipnetwork.specs.declared.size.NetworkSize.{NetworkSize}
pub use Rattle.ipnetwork_addr.specs.declared.ip.IpAddr.{IpAddr}
pub use Rattle.ipnetwork_blocks.specs.Aggregate.{InUnion, IsAggregate, LiesInUnion, SameUnion}
pub use Rattle.ipnetwork_blocks.specs.AggregateIp.{IsIpAggregate, as_v4, as_v6}
pub use Rattle.ipnetwork_blocks.specs.AggregateIpLaws.{InIpUnion, IpAggregateHasNetworks, LiesInIpUnion}
pub use Rattle.ipnetwork_blocks.specs.AggregateLaws.{AggregateBlocksAreNeeded, AggregateHasNetworks, AggregateHasOneBlock, AggregateHasUnion, AggregateIsApart, AggregateIsLeast, UnionOfList, UnionOfNone}
pub use Rattle.ipnetwork_blocks.specs.Exclusion.{InDifference}
pub use Rattle.ipnetwork_blocks.specs.FollowingBlock.{following_block}
pub use Rattle.ipnetwork_blocks.specs.Hosts.{AreIpv4Hosts, AreIpv6Hosts}
pub use Rattle.ipnetwork_blocks.specs.LeastList.{IsLeastList, IsMaximalIn, LiesIn}
pub use Rattle.ipnetwork_blocks.specs.LeastListLaws.{IsShortest, RangeIsShortest}
pub use Rattle.ipnetwork_blocks.specs.PrecedingBlock.{preceding_block}
pub use Rattle.ipnetwork_blocks.specs.Private.BlockRuns.{AreEnds, IsRun, blocks_left}
pub use Rattle.ipnetwork_blocks.specs.Private.Held.{the_network}
pub use Rattle.ipnetwork_blocks.specs.Private.Joining.{AreHalves, AreInOrder, AreJoined, Follows, LiesInLast}
unfoldable pub use Rattle.ipnetwork_blocks.specs.Private.RangeList.{blocks_within}
pub use Rattle.ipnetwork_blocks.specs.Private.RangeList.{blocks_from_to, has_all}
pub use Rattle.ipnetwork_blocks.specs.Private.Sides.{Before, Behind}
pub use Rattle.ipnetwork_blocks.specs.Ranges.{FromTo}
pub use Rattle.ipnetwork_blocks.specs.Spanning.{IsSpanning}
pub use Rattle.ipnetwork_blocks.specs.Subnets.{block_number, subnet_number, subnets_of}
pub use Rattle.ipnetwork_blocks.specs.Supernets.{IsAround, IsSibling, parent}
pub use Rattle.ipnetwork_family.proofs.Blocks.{block_begins, block_fits_too, block_same_set, coarser_size, div_within, has_ends, high_fits, member_within, multiple_begins, nested, shares_address, size_divides, size_pos, subnet_from, subnet_prefix, within_block, within_member}
pub use Rattle.ipnetwork_family.proofs.BlocksAt.{block_at_holds, block_at_network, block_at_subnet, same_block}
pub use Rattle.ipnetwork_family.proofs.Members.{count_up-more, count_up-next, count_up-none, count_up-one, list_falls}
pub use Rattle.ipnetwork_family.specs.Bits.{EndsInZeros, SharesBits}
unfoldable pub use Rattle.ipnetwork_family.specs.Network.{count_up}
pub use Rattle.ipnetwork_family.specs.Network.{HostBitsAreZero, IsCidrBlock, IsNetwork, IsNetworkAtMost, Member, Network, Overlap, Subnet, block_at, block_of, block_size, high, low, mask_of, members, network_cmp}
pub use Rattle.std.proofs.Common.{Bool, IsTrue, List, MatchOption, None, Option, Some, [], ap, arith, cond, drop, false, get_or, inl, inr, leb, length, map, max, min, nat_eq, not, option_map, refl, set, subst, suc, sym, take, true, zero, ℕ, ⊎_elim, ◌%◌, ◌&&◌, ◌*◌, ◌++◌, ◌+◌, ◌-◌, ◌/◌, ◌<◌, ◌==◌, ◌^◌, ◌↔◌, ◌∙◌, ◌∷◌, ◌≡◌, ◌≢◌, ◌≤◌, ◌⊎◌}
pub use Rattle.std.proofs.Math.Nat.{add-mul-div_left, div-lt_iff_lt-mul, div-mul-le_self, lt-div-mul-add, mod-eq-sub-div-mul}
pub use Rattle.std.proofs.Math.Pow.{pow_mono}
pub use Rattle.std.proofs.Math.Seq.{drop-append_seam, paste, take-length, take-suc}
pub use Rattle.std.proofs.lemmas.Bool.{and_parts, cases_eq, cases_lt, cases_order, eq-eqb, eqb-true, iff_false, le-leb, leb-true, true≢false}
pub use Rattle.std.proofs.lemmas.Cmp.{ranked}
pub use Rattle.std.proofs.lemmas.List.{append-nil, append_cancel_right, drop_all, get_or-map, get_or-set_other, get_or-set_same, get_or-take, get_or_default, length-append, length-map, length-set, length-take, length-take-le, map-set, take-append-drop, take-append-le, take-map, take-take, take_all, take_more, take_more_set}
pub use Rattle.std.proofs.lemmas.List.Edits.{get_or-remove_above, get_or-remove_below, length-remove, map_over_more, take-paste}
pub use Rattle.std.proofs.lemmas.List.Elements.{All-contains, All-push, All-set, All-take, AllWithin-more_set, Contains-append_cases, Contains-append_left, Contains-append_right, Contains-get_or, Contains-push, Contains-push_cases, filter_map-append}
pub use Rattle.std.proofs.lemmas.List.Kept.{AllPairs-cons}
pub use Rattle.std.proofs.lemmas.List.Quantifiers.{all_pairs_push}
pub use Rattle.std.proofs.lemmas.List.Sorted.{All-permutation, Contains-permutation, IsPermutation-map, IsPermutation-sym, IsPermutation-trans}
pub use Rattle.std.proofs.lemmas.Nat.{mul-le, pow-add, pow_below, pow_pos}
pub use Rattle.std.specs.Cmp.{unsigned_tied}
pub use Rattle.std.specs.Iterator.{MakesProgress, item_count}
pub use Rattle.std.specs.List.{All, AllPairs, AllWithin, Contains, SwappedAt, cons_option, copy_within, filter_map, remove}
pub use Rattle.std.specs.List.Sorted.{IsPermutation, IsSorted}
pub use Rattle.std.specs.Ordering.{MatchOrdering, eq_by_cmp, is_eq, is_le, is_lt, is_some_and, nat_cmp, ordering_then, partial_le, partial_lt}
pub use Rattle.std.specs.declared.cmp.Ordering.{Ordering}
pub use Rattle.std.specs.declared.cmp.Ordering.TheVariants.{Equal, Greater, Less}
