-- The words and the lemmas that answers cite, passed on from one place.

pub use Rattle.ipnetwork_c.proofs.Words.{All, All-permutation, AnswersEach, AreCutsOf, AreLeastParts, ArePlacesUpTo, ComesTo, Difference, FindsLongest, First, FromTo, HasBlocks, HasStarts, IfSome_then, InUnion, Intersection, IsBetween, IsCidrBlock, IsFault, IsLeastList, IsLongestAt, IsSplitAt, IsTable, IsWrittenUpTo, LastBefore, List, Member, NamesV6Network, Network, NoPrefix, Nothing, On, Operation, PlaceQuery, PrintsRows, PutsItems, PutsSet, RangeQuery, ReadsRows, SetQuery, SharesBits, StandsAt, Suffixed, TableQuery, Union, Unless, V4, V6, Writes, Yields, YieldsFirstBy, [], address_at, ap, arith, block_at, block_at_network, cut_at, div-eq_of_lt, drop, eqb-false, false, firsts, flat_map, from_bool, get_or, get_or-append-add, get_or-drop, get_or-map, get_or_default, iff_false, in_order_from_sort, inl, inr, is_member, kept_by, le-leb, leb-true, length, length-map, length-range_with_len, length-set, length-take-le, length_permutation, lt-ltb, ltb-true, map, map-append, members, min, no_member, no_place, not_below, number_at, number_of_octets, octets_of_v6, range_with_len, read_map, read_pair, refl, row_block, row_text, rules, slice_get_read, span, subst, sym, take, take-map, take-set_at, take_rest, true, v4_in, v6_in, weakly, ℕ, ⊎_elim, ◌*◌, ◌++◌, ◌+◌, ◌-◌, ◌/◌, ◌<◌, ◌^◌, ◌↔◌, ◌∙◌, ◌∷◌, ◌≡◌, ◌≤◌}
pub use Rattle.ipnetwork_c.proofs.BlocksPut.{all_put, block_put, given, nothing_put, too_many}
pub use Rattle.ipnetwork_c.proofs.Buffers.{zero_behind}
pub use Rattle.ipnetwork_c.proofs.Cutting.{alone_at, cuts_more, cuts_none, ends_one, ends_two, front_taken, made, place_put, placed, put_more, range_fault_is_byte, written_first, written_more, written_none}
pub use Rattle.ipnetwork_c.proofs.Families.{member_of, v4_told, v6_told}
pub use Rattle.ipnetwork_c.proofs.HighFirst.{turned_halves}
pub use Rattle.ipnetwork_c.proofs.HighHalves.{member_by_half, none_near, told_near}
pub use Rattle.ipnetwork_c.proofs.IndexParts.{before_all, before_more, index_made, lies_before, own_is, parts_all, span_is, starts_more, two_halves}
pub use Rattle.ipnetwork_c.proofs.Indexed.{ends_at, next_told, read_before_tells}
pub use Rattle.ipnetwork_c.proofs.KeptRoom.{kept_fits}
pub use Rattle.ipnetwork_c.proofs.Keys.{keyed}
pub use Rattle.ipnetwork_c.proofs.MemberCounts.{ends_apart, next_in_octets, nth_from_least}
pub use Rattle.ipnetwork_c.proofs.Octets.{v4_again, v6_again}
pub use Rattle.ipnetwork_c.proofs.Offsets.{Fall, IsLast, Rise, are_where_last_fits, fall_here, fall_on, last_here, rise_on}
pub use Rattle.ipnetwork_c.proofs.PrintedRows.{FitsAt, end_goes_on, row_printed, within_whole}
pub use Rattle.ipnetwork_c.proofs.Rows.{each_row_answered, item_row_more, one_row_more, row_written}
pub use Rattle.ipnetwork_c.proofs.Searching.{between_before, between_behind, between_met, finds_last, finds_none, last_does_not_fit, last_fits, last_held, none_fits, none_last, none_next, set_answered, set_refused, stands_split}
pub use Rattle.ipnetwork_c.proofs.TableFinding.{IsSearched, by_address, fault_is_byte, search_begins, search_fails, search_finds, search_goes_on, taken_ascends}
pub use Rattle.ipnetwork_c.proofs.TableMaking.{IsRow, are_places, row_put, sorted_by, taken}
pub use Rattle.ipnetwork_c.proofs.Truths.{fits_too, no_true, order_kept, says}
