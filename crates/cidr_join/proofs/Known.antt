-- The words and the lemmas that answers cite, passed on from one place.
unfoldable pub use Rattle.cidr_join.proofs.Words.{addresses_of}
pub use Rattle.cidr_join.proofs.Words.{AnswersOver, AreNoRange, AreRead, Bool, BytesFault, CountsAll, CountsNames, CountsSoFar, CountsTexts, DoesRequest, EndOfInput, EntryFails, Err, FailsIn, FinMap, Finds, FindsOver, Found, GivesLine, GivesOne, HELP, HasOnlyBlocks, InTurn, IpNetwork, IsCounted, IsTally, LineEnd, LineFeed, List, Listing, LogStats, LogsSoFar, Network, Networks, None, Nothing, Ok, Option, PROGRAM, Pair, Prints, PrintsSoFar, ReadList, ReadsEntry, ReadsSoFar, ReturnAndLineFeed, RouteFault, Some, Takes, TellsUnread, TellsUntaken, Unread, VERSION, [], after_line, after_long, answers_by, ap, append-nil, append_assoc, are_alike, arith, begins, block_of, breaks, by_pair, counted_for, counted_in, device_of, done, drop, drop_all, ending, ends_here, err_from_is_err_and, failed_now, fails_all, fails_first, false, feed_behind, first_word, flat_map, found_by, found_by_pair, founds_of, get, goes_more, handed_out, has_failed, if◌then◌else◌, inl, inr, ip_of, is_given, is_some, iter_end, lacks_feed, left, length, length-append, lines_of, list_any, list_text, log_ends, log_line, log_more, log_stops, logs_begin, logs_end, long_stops, map, map-append, map-id, mark_of, name_next, name_within, named_by, network_cmp, network_read, never, no_networks, not, not_done, nothing, number_or_none, on_err, one_has, option_copied_mut, printed, puts_it, puts_more, puts_nothing, puts_two, reads_nothing, refl, repeated, result_ok, row_of, row_text, rows_text, rules, shown_in, shown_of, status_by, still_works, string_bytes, subst, sym, take, take_all, true, true≢false, two_of, value_behind, works_still, ℕ, ◌&&◌, ◌++◌, ◌+◌, ◌-◌, ◌||◌, ◌∙◌, ◌∷◌, ◌≡◌, ◌≤◌}
pub use Rattle.cidr_join.proofs.CutLists.{cut_next}
pub use Rattle.cidr_join.proofs.Lines.{left_none, line_gives, line_refused, long_gives, long_refused, shown_here, shown_long}
pub use Rattle.cidr_join.proofs.LinesRead.{answered, front_is, line_fails, named_alone, named_first, named_range, two_here, value_is}
pub use Rattle.cidr_join.proofs.Listing.{Taken, all_taken, last_stops, line_ends, line_left, line_more, line_stops, line_taken}
pub use Rattle.cidr_join.proofs.ListsInTurn.{ReadSoFar, all_read, items_unread, left_from, none_read, one_read, one_unread, untaken}
pub use Rattle.cidr_join.proofs.LogsInTurn.{counting_stops, joining_stops, not_opened, read_all}
pub use Rattle.cidr_join.proofs.LongestOver.{NoneBetween, asked_at, longest_here, longest_is_over, none_over}
pub use Rattle.cidr_join.proofs.Marks.{before_line, behind_line, tail_of}
pub use Rattle.cidr_join.proofs.Numbering.{NumbersSoFar, all_numbered, line_found, named_listed, none_numbered, not_empty, numbers_added, one_numbered, routes_numbered, stands_for_none, stands_for_some, stands_v4, stands_v6}
pub use Rattle.cidr_join.proofs.PutBack.{put_back}
pub use Rattle.cidr_join.proofs.Repeated.{flat_more, none_counted, number_counted, repeated_more, rows_counted, stands_whole, text_counted, texts_both, texts_none}
pub use Rattle.cidr_join.proofs.Runs.{by_group, by_lines, by_tally, joined_by, same_routes}
pub use Rattle.cidr_join.proofs.Slashes.{is_slash, no_address}
pub use Rattle.cidr_join.proofs.Taking.{Set, all_set, none_set, one_more_set, only_memory}
pub use Rattle.cidr_join.proofs.TallyLines.{address_counted, address_counted_if, counted, counting_breaks, counts_both, counts_nothing, lacks_memory, left_by, line_counted, line_not_counted, long_counted, long_ends}
pub use Rattle.cidr_join.proofs.TallyRows.{failed_all, fails_before, finishes, none_or, or_on, rows_all, rows_at, rows_more, written_all}
pub use Rattle.cidr_join.proofs.Tallying.{counts_again, counts_first, entry_row, some_counted, some_named, tally_of}
