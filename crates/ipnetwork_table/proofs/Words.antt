-- The words of this crate and of those below, passed on from one place.
pub use Rattle.ipnetwork_family.proofs.Blocks.{block_same_set, coarser_size, div_within, member_within, shares_address, size_pos, subnet_after, subnet_from, within_member}
pub use Rattle.ipnetwork_family.proofs.BlocksAt.{block_at_holds, block_at_is, block_at_network, block_at_subnet, same_block}
pub use Rattle.ipnetwork_family.proofs.Generic.{at_most_from_cmp}
pub use Rattle.ipnetwork_family.specs.Computed.Network.{is_member}
pub use Rattle.ipnetwork_family.specs.Laws.{MembershipComputed}
pub use Rattle.ipnetwork_family.specs.Network.{HostBitsAreZero, IsCidrBlock, IsNetworkAtMost, IsNetworkBefore, Member, Network, Subnet, block_at, block_of, block_size, network_cmp}
pub use Rattle.ipnetwork_table.specs.Computed.Longest.{longer, longest_of}
pub use Rattle.ipnetwork_table.specs.Laws.{AnswerExists, AnswerIsComputed, AnswerIsOne, BlocksOfAnyWidthThatMeet, EmptyHasNoHostBits, EntriesAscend, InsertAddsNoHostBits, InsertSetsOne, ListedIsStored, RemoveAddsNoHostBits, RemoveTakesOne, StoredIsListed, WiderBlocksFirst}
pub use Rattle.ipnetwork_table.specs.Private.Lengths.{CountsLengths, IsLastUsedUpTo, NoneUsedBetween, NoneUsedUpTo, count_of_length}
pub use Rattle.ipnetwork_table.specs.Private.Nearest.{IsLastUpTo, NoneAbove, NoneUpTo, ShareAtMost}
pub use Rattle.ipnetwork_table.specs.Table.{Answers, Finds, HasNoHostBits, HasOnlyBlocks, IsLongest, NoneHolds, by_pair, found_by_pair}
pub use Rattle.std.proofs.Common.{Bool, List, None, Option, Ordering, Some, T, [], ap, arith, cond, false, get_or, inl, inr, is_some, length, lit<, lit≤, refl, rules, set, slice_get, subst, suc, sym, true, zero, ℕ, ⊎_elim, ◌&&◌, ◌+◌, ◌-◌, ◌/◌, ◌<◌, ◌==◌, ◌^◌, ◌∙◌, ◌∷◌, ◌≡◌, ◌≢◌, ◌≤◌}
pub use Rattle.std.proofs.lemmas.Bool.{cases_lt, false_from_ne_true}
pub use Rattle.std.proofs.lemmas.Bool.Decides.{Decides-eqb, leb_tells}
pub use Rattle.std.proofs.lemmas.Cmp.{eq_by_cmp_equiv, on_total, then_total}
pub use Rattle.std.proofs.lemmas.List.{get_or-replicate, get_or-set_other, get_or-set_same}
pub use Rattle.std.proofs.lemmas.Map.Lookups.{exact_pairs, exact_unsigned}
pub use Rattle.std.specs.BTreeMap.{BTreeMap, insert_entry, is_at}
pub use Rattle.std.specs.BTreeMap.Range.{IsInRange}
pub use Rattle.std.specs.Cmp.{IsTotalOrder, nat_cmp_is, nat_cmp_total, ranked, tied_itself}
pub use Rattle.std.specs.FinMap.{FinMap, IsAntisymmetric, empty, empty_of_len, entries, entries-insert, entries_sorted, find, from_entries, get, get-empty, get-entries, get-from_entries, get-insert, get-remove, get-retain_keys, insert, is_sorted, len, len-empty, len-entries, len-insert, len-remove, put, remove, retain_keys, same_map}
pub use Rattle.std.specs.FinMap.Entries.{below_all, by_order, find-put}
pub use Rattle.std.specs.List.{AllByRecursion}
unfoldable pub use Rattle.std.specs.List.Sorted.{IsStrictlySortedBy}
pub use Rattle.std.specs.Map.{keys_of, lookup, remove_entry}
pub use Rattle.std.specs.Option.{unwrap_or}
pub use Rattle.std.specs.Ordering.{eq_by_cmp, is_eq, is_gt, is_lt, match_ordering, nat_cmp, ordering_then}
pub use Rattle.std.specs.Prelude.{IsSome, MatchOption}
pub use Rattle.std.specs.declared.cmp.Ordering.TheVariants.{Equal, Greater, Less}
pub use Rattle.std.specs.declared.ops.Bound.TheVariants.{Included, Unbounded}
