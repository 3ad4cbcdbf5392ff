-- The words and the lemmas that answers cite, passed on from one place.
unfoldable pub use Rattle.cidr_merge.proofs.Words.{digits}
pub use Rattle.cidr_merge.proofs.Words.{AddressCount, AreFound, AreTexts, Bool, Common, Err, FailsIn, FamilyFoot, FamilyHead, FileStops, FiltersInPlace, FiltersInPlace-more_no, FiltersInPlace-more_swap, First, Foot, HELP, Head, IfErr, IpAddr, IsLeft, IsPermutation, IsPermutation-map, Item, KnownLists, List, Names, None, Ok, Opening, OutOfMemory, Placed, Prints, PutsOrFails, ReadFault, ReadLists, ReadsLists, ReadsDocument, ReadsFile, ReadsIn, ReadsOne, Reports, Result, Second, Shape, Sought, StopsAtDocument, StopsBy, StopsFile, Strings, StopsOne, TellsFound, TextStops, TextsStop, Union, VERSION, [], address_line, ap, append-nil, append_assoc, are_wrong_files, arith, at_drop_more, block_size, blocks_left, closing, concat, count_line, count_number, decimal, drop, drop-length, element, ending, err_from_is_err_and, fails_first, false, family_name, family_text, fields_of, filter, findings_by, flat_map, following, frame_text, from_of, get_or, get_or_default, has_other, high, if◌then◌else◌, inl, inr, is, is_any, is_refused, is_v6, is_wrong, large_number, left_of_second, length, length-append, length-map, length-take, line_entries, line_findings, line_is_other, line_matches, line_of, line_sought, lines, lines_left, list_any, listed, listed_as, lists_entries, lists_findings, lists_matches, lists_of, lists_sought, low, map, mask_of, match_lines, matches_by, merged_by, min, name_at, nat_lt, ne_eqb, network_line, not, not_asked, nothing_read, number_of, numbered_lines, of_calls, overlaps, pair_text, pieces_text, place_text, position_or_len, printed, puts_it, puts_more, puts_none, puts_two, refl, repetitions, rules, said_by, sign_of, sought_as, sought_in, source, string_bytes, strings_in, strip_prefix_char, subst, sym, take, take-append_seam, take-length, take_rest, take_more_set, tells_on, tells_same, text_of, told_of, total, true, v4_family, v6_family, with_head, zero-div, ℕ, ◌&&◌, ◌*◌, ◌++◌, ◌+◌, ◌-◌, ◌/◌, ◌<◌, ◌^◌, ◌||◌, ◌∙◌, ◌∷◌, ◌≡◌, ◌≤◌, Option, Some, OnOk, AreUpTo, AreNetworks, AreOuters, EndBy, HaveReaching, Place, has_words, lines_by, network_in, relation_text, with_networks, end_findings, ends_findings, whole}
pub use Rattle.cidr_merge.proofs.CutEnds.{LinesSoFar, ends_next, last_is, line_more, no_lines}
pub use Rattle.cidr_merge.proofs.Cuts.{cut_into}
pub use Rattle.cidr_merge.proofs.ExportTexts.{any_unless_empty, foot_of_both, head_of_both, there_is_none, there_is_one}
pub use Rattle.cidr_merge.proofs.FormReadings.{form_read}
pub use Rattle.cidr_merge.proofs.Found.{AnySoFar, ToldSoFar, all_told, any_more, more_so_far, none_so_far, tells_both, tells_none, tells_one}
pub use Rattle.cidr_merge.proofs.FreeEnds.{all_of_them, one_alone, prints_none, prints_some}
pub use Rattle.cidr_merge.proofs.HostTexts.{all_with_first, all_with_last, first_part, none_with_first, one_part, read_first, read_last}
pub use Rattle.cidr_merge.proofs.Inspected.{all_written, status_is}
pub use Rattle.cidr_merge.proofs.KeptEntries.{Swept, as_it_was, same_further, swapped_rest}
pub use Rattle.cidr_merge.proofs.ListedOrder.{sorted_as}
pub use Rattle.cidr_merge.proofs.Merging.{headed, least_of_second, no_second, ranges_of, ranges_of_second, shorter}
pub use Rattle.cidr_merge.proofs.OverlapEnds.{ordered_ended}
pub use Rattle.cidr_merge.proofs.OverlapPairs.{PairsTold, pairs_next, pairs_with_next}
pub use Rattle.cidr_merge.proofs.Passed.{before_more, not_sooner, of_map, passed_over, skipped, unmatched}
pub use Rattle.cidr_merge.proofs.PlacesFound.{ArePlacesUpTo, all_placed, are_found, front, outers_more, reaching_less, reaching_more, reaching_none, skips_more}
pub use Rattle.cidr_merge.proofs.Percents.{percent_parts, percent_sum}
pub use Rattle.cidr_merge.proofs.Places.{named_among}
pub use Rattle.cidr_merge.proofs.Printed.{Printed, all_printed, fails_at, printed_more}
pub use Rattle.cidr_merge.proofs.Putting.{count_lines, counts_of_both, counts_of_one, ends_writing, fails_both, fails_longer, finished, put_two, puts_badly, puts_both, puts_well, unfinished}
pub use Rattle.cidr_merge.proofs.ReadInTurn.{reads_on, side_ok}
pub use Rattle.cidr_merge.proofs.Readings.{said_is, too_long}
pub use Rattle.cidr_merge.proofs.RepeatedEntries.{left_of, repetitions_told_more}
pub use Rattle.cidr_merge.proofs.Runs.{asked_ends, sides_read}
pub use Rattle.cidr_merge.proofs.SearchEnds.{as_many_froms, as_many_lists, froms_within, names_within, search_ended, searched}
pub use Rattle.cidr_merge.proofs.Shares.{all_left, all_of, by_halves, most_of}
pub use Rattle.cidr_merge.proofs.SoughtWords.{as_many_networks, networks_on, no_network, without_its_host_bits, wrong_word}
pub use Rattle.cidr_merge.proofs.Stopping.{side_stopped, stops_in}
pub use Rattle.cidr_merge.proofs.TextLines.{last_alone, line_before, none_left}
pub use Rattle.cidr_merge.proofs.TwoWords.{AreAddressTexts}
pub use Rattle.cidr_merge.proofs.Totals.{alone_by, at_end, count_is, counted_are, kept_within, lacks_some, left_by, listed_on, totalled_on}
pub use Rattle.cidr_merge.proofs.UsageLines.{counts_within, first_within, is_allowed, none_lacks, rest_within, usage_lines}
pub use Rattle.cidr_merge.proofs.WholeLists.{as_many_held, cut_off, ends_as_wanted, no_memory, text_more, text_stops, texts_stop}
pub use Rattle.cidr_merge.proofs.Wrong.{is_either}
