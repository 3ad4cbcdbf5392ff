-- The words of this crate and of those below, passed on from one place.
pub use Rattle.ipnetwork_blocks.proofs.LeastLists.{contains_cons, contains_head, contains_nil, contains_tail, least_unique, pairs_head, pairs_tail}
pub use Rattle.ipnetwork_blocks.proofs.MaximalBlocks.{is_shortest}
pub use Rattle.ipnetwork_blocks.specs.Aggregate.{InUnion}
pub use Rattle.ipnetwork_blocks.specs.LeastList.{IsLeastList}
pub use Rattle.ipnetwork_blocks.specs.LeastListLaws.{IsShortest}
pub use Rattle.ipnetwork_blocks.specs.Ranges.{FromTo}
pub use Rattle.ipnetwork_family.proofs.Blocks.{has_ends, member_within, shares_address, size_pos, subnet_from, within_member}
pub use Rattle.ipnetwork_family.proofs.BlocksAt.{block_at_is}
pub use Rattle.ipnetwork_family.specs.Network.{IsCidrBlock, IsNetwork, IsNetworkBefore, Member, Network, block_at, block_of, block_size, high, low, network_cmp}
pub use Rattle.ipnetwork_index.specs.Columns.{AreAnsweredUpTo, IsTold}
pub use Rattle.ipnetwork_index.specs.Entries.{HasBlocksOf, HasLastValues, HasValue, IsLastValue, NoneHasBlock}
pub use Rattle.ipnetwork_index.specs.Halves.{IsLastOf}
pub use Rattle.ipnetwork_index.specs.NumberParts.{HasParts, IsPart}
pub use Rattle.ipnetwork_index.specs.Private.Answers.{AreAnswers, AreAnswersUpTo, AreNone, IsAnswered, IsFound, IsMadeOf, Tells, TellsAt}
pub use Rattle.ipnetwork_index.specs.Private.BlockEnds.{AllLieAt, AreTellingUpTo, IsScanned, place_told}
pub use Rattle.ipnetwork_index.specs.Private.Cuts.{AreCutsOf, Closes, EndsBefore, EndsWhole, Rises, before, cuts_of}
pub use Rattle.ipnetwork_index.specs.Private.Edges.{CutsOut, IsCutOut, edges_of}
pub use Rattle.ipnetwork_index.specs.Private.Halved.{AllAreLast}
pub use Rattle.ipnetwork_index.specs.Private.Listings.{AreListedBlocks}
pub use Rattle.ipnetwork_index.specs.Private.LowHalves.{AreBefore, AreFirstsSoFar, AreLowHalvesOf, AreRising, IsFirstFrom, IsFirstOf, IsNarrowedTo, IsRunOfLess}
pub use Rattle.ipnetwork_index.specs.Private.Padded.{IsPadded, IsSearched, Pads, unpadded}
pub use Rattle.ipnetwork_index.specs.Private.Partitions.{IsPartition, LiesAt, is_inside}
pub use Rattle.ipnetwork_index.specs.Private.Steps.{AreStartsSoFar, HasComeTo, IsBetween, IsOneIfLess, IsStep}
pub use Rattle.ipnetwork_index.specs.Private.Sweeps.{AreListed, AreNested, AreOpen, ArePlaces, AreSwept, HasEntries, IsInnermost, IsLongerWithin, KeepsOpen, LastEndsFrom, NextIsAfter, OpenFrom}
pub use Rattle.ipnetwork_index.specs.Searches.{AreStarts, Ascends, IsPlaceOf, IsSearchable, IsStart, IsWithin}
pub use Rattle.ipnetwork_index.specs.Turns.{CutByBlocks, CutInto, HasEdge, IsEdge, IsTurn}
pub use Rattle.ipnetwork_sets.proofs.LeastBlocks.{least_blocks_of}
pub use Rattle.ipnetwork_sets.proofs.RunLists.{ranges_cons, ranges_nil}
pub use Rattle.ipnetwork_sets.proofs.WholeSpace.{whole, whole_quotient}
pub use Rattle.ipnetwork_sets.specs.Counts.{HasCount}
pub use Rattle.ipnetwork_sets.specs.Private.LeastBlocks.{least_blocks}
pub use Rattle.ipnetwork_sets.specs.RangeLists.{InRanges}
pub use Rattle.ipnetwork_sets.specs.Sets.{IsAddressSet}
pub use Rattle.ipnetwork_table.proofs.Pairs.{one_network, tie_of, total}
pub use Rattle.ipnetwork_table.specs.Laws.{EntriesAscend, ListedIsStored, StoredIsListed, WiderBlocksFirst}
pub use Rattle.ipnetwork_table.specs.Table.{Finds, HasOnlyBlocks, IsLongest, NoneHolds, by_pair}
pub use Rattle.std.proofs.Common.{Bool, IsSome, IsTrue, List, None, Option, Ordering, Some, T, [], ap, append_assoc, arith, cond, eqb, false, get_or, inl, inr, is_some, leb, length, length-append, map, min, not, refl, replicate, set, slice_get, slice_set, subst, suc, sym, take, true, true≢false, w16, zero, ℕ, ⊎_elim, ◌%◌, ◌&&◌, ◌*◌, ◌++◌, ◌+◌, ◌-◌, ◌/◌, ◌<◌, ◌^◌, ◌↔◌, ◌∙◌, ◌∷◌, ◌≡◌, ◌≢◌, ◌≤◌, ◌⊎◌}
pub use Rattle.std.proofs.Math.Bool.{beq}
pub use Rattle.std.proofs.Math.Nat.{add-mul-mod_self_left, div-div-eq-div-mul, mod-eq_of_lt, mul-le-mul_right, mul-suc, mul-zero, mul_assoc, pow-le-pow_right, two-pow-succ}
pub use Rattle.std.proofs.Math.Pow.{pow_mono, shr_mono}
pub use Rattle.std.proofs.Math.Seq.{take-append_seam}
pub use Rattle.std.proofs.lemmas.Bool.{agree_below_at, cases_eq, cases_lt, eqb-true, le-leb, leb-false, leb-true, lt-leb}
pub use Rattle.std.proofs.lemmas.Bool.Decides.{eqb_tells}
pub use Rattle.std.proofs.lemmas.Cmp.{eq_by_cmp_equiv}
pub use Rattle.std.proofs.lemmas.List.{append-nil, get_or-append-add, get_or-map, get_or-set_other, get_or-set_same, get_or-take, get_or_append_left, get_or_default, get_or_past, get_or_push, get_or_read, length-map, length-set, length-take, map-append, map_push, take_all, take_more}
pub use Rattle.std.proofs.lemmas.List.Elements.{All-contains, All-contains_itself, All-push, All-weaker, Contains-append_cases, Contains-append_left, Contains-append_right, Contains-push}
pub use Rattle.std.proofs.lemmas.List.Filters.{dedup_is}
pub use Rattle.std.proofs.lemmas.List.Kept.{Any-dedup, Contains-from_dedup, IsStrictlySortedBy-dedup}
pub use Rattle.std.proofs.lemmas.List.Sorted.{Contains-permutation, IsPermutation-map, IsPermutation-sym}
pub use Rattle.std.proofs.lemmas.Nat.{div-mul-add, leading_top, mul-le, ones_cat, pow-add, pow_pos}
pub use Rattle.std.proofs.lemmas.Option.{get_or_from_slice_get, slice_get-get_or, slice_get-map, slice_get_read, slice_get_within}
pub use Rattle.std.proofs.lemmas.Simd.{first_set_mask_l, length-chunk, mask_l-lt, mask_l-mod, run_in_chunk_fails, run_in_chunk_le, run_in_chunk_stops, tops_compared, zip2_splat_left}
pub use Rattle.std.specs.Bool.{one_answer}
pub use Rattle.std.specs.Cmp.{IsEquivalence, IsTotalOrder, ranked}
pub use Rattle.std.specs.FinMap.{FinMap, empty, entries, entries-from_sorted, from_sorted, get, get-empty, get-insert, insert, is_sorted}
pub use Rattle.std.specs.FinMap.Entries.{below_all}
pub use Rattle.std.specs.Int.Count.{count_leading_zeros}
pub use Rattle.std.specs.List.{All, AllByRecursion, AllPairs, Contains, dedup, flat_map, prefix_len}
unfoldable pub use Rattle.std.specs.List.Sorted.{IsStrictlySortedBy}
pub use Rattle.std.specs.List.Sorted.{IsPermutation, IsSorted}
pub use Rattle.std.specs.Option.{option_map, option_to_list, unwrap_or}
pub use Rattle.std.specs.Ordering.{eq_by_cmp, is_lt, nat_cmp}
pub use Rattle.std.specs.Prelude.{MatchOption, count_ones}
pub use Rattle.std.specs.declared.cmp.Ordering.TheVariants.{Equal, Less}
