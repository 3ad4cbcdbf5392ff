-- The words of this crate and of those below, passed on from one place.
pub use Rattle.allotting.specs.FreeBlocks.{AreFreeBlocks, IsFreeBlock}
pub use Rattle.allotting.specs.Hosts.{AreLengthsFor, IsLengthFor, NoLengthFor, host_count}
pub use Rattle.allotting.specs.Places.{ArePlaces, Covers, IsBefore, IsFirstFree, IsLeft, IsPlaced, NoneIsFree}
pub use Rattle.allotting.specs.Private.Counting.{IsPast, TakesWithin, at_hand}
pub use Rattle.allotting.specs.Private.Pieces.{NextPieces, pieces, pieces_in}
pub use Rattle.allotting.specs.Private.Placing.{HasLeft, InPoolAlone, IsFilling, IsPlacing}
pub use Rattle.allotting.specs.Usage.{AreUsed, IsUsedIn}
pub use Rattle.ipnetwork_blocks.proofs.AggregateUnions.{union_append}
pub use Rattle.ipnetwork_blocks.proofs.BlockRuns.{multiple_order}
pub use Rattle.ipnetwork_blocks.proofs.LeastLists.{contains_cons, contains_head, contains_nil, contains_tail, own_address, pairs_append, pairs_head, pairs_tail}
pub use Rattle.ipnetwork_blocks.specs.Aggregate.{InUnion, IsAggregate, LiesInUnion}
pub use Rattle.ipnetwork_blocks.specs.AggregateLaws.{AggregateHasUnion, AggregateHasNetworks, AggregateIsApart}
pub use Rattle.ipnetwork_blocks.specs.LeastList.{IsLeastList, IsMaximalIn}
pub use Rattle.ipnetwork_blocks.specs.LeastListLaws.{IsShortest}
pub use Rattle.ipnetwork_blocks.specs.Subnets.{block_number, subnets_of}
pub use Rattle.ipnetwork_family.proofs.Blocks.{div_within, has_ends, high_fits, member_within, multiple_begins, size_divides, size_pos, subnet_prefix, within_member}
unfoldable pub use Rattle.ipnetwork_family.specs.Network.{count_up}
pub use Rattle.ipnetwork_family.specs.Network.{IsCidrBlock, IsNetwork, Member, Network, Subnet, block_size, high, low, members}
pub use Rattle.ipnetwork_family.proofs.Members.{length-count_up, lists_members}
pub use Rattle.ipnetwork_sets.proofs.SetLaws.{least_is_set}
pub use Rattle.ipnetwork_sets.proofs.Steps.{union_cons, union_nil}
pub use Rattle.ipnetwork_sets.proofs.Totals.{counts_more}
pub use Rattle.ipnetwork_sets.specs.Laws.{DifferenceIsShortest}
pub use Rattle.ipnetwork_sets.specs.Counts.{HasCount, count_number, total}
pub use Rattle.ipnetwork_sets.specs.Sets.{InBoth, InFirstAlone, IsAddressSet}
pub use Rattle.std.proofs.Common.{Bool, List, None, Option, Some, [], ap, ap₂, append_assoc, arith, false, get_or, inl, inr, length, map, refl, rules, subst, suc, sym, true, zero, ℕ, ⊎_elim, ◌&&◌, ◌*◌, ◌++◌, ◌+◌, ◌-◌, ◌/◌, ◌<◌, ◌^◌, ◌↔◌, ◌∙◌, ◌∷◌, ◌≡◌, ◌≤◌, ◌⊎◌}
pub use Rattle.std.proofs.lemmas.Bool.{and_parts, cases_Bool, cases_lt, le-leb, leb-true}
pub use Rattle.std.proofs.lemmas.List.Elements.{All-contains, All-push, Contains-append_cases, Contains-append_left, Contains-append_right, Contains-get_or}
pub use Rattle.std.proofs.Math.Nat.{min-eq_left}
pub use Rattle.std.proofs.Math.Pow.{pow_mono}
pub use Rattle.std.proofs.lemmas.List.Kept.{AllPairs-from_increasing}
pub use Rattle.std.proofs.lemmas.List.{get_or-map, get_or-set_other, get_or-set_same, get_or_default, length-append, length-map, length-set, map-append, take-append-le, take_all, take_more}
pub use Rattle.std.proofs.lemmas.Nat.{mul-le, pow-add, pow_pos, shr_high}
pub use Rattle.std.specs.List.{All, AllPairs, Contains, flat_map}
pub use Rattle.std.specs.Prelude.{MatchOption, drop, if◌then◌else◌, min, nat_le, set, take}
