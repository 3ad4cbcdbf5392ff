-- The words of this crate and of those below, passed on from one place.
pub use Rattle.byte_search.specs.Bytes.{IsAbsent, IsNext}
pub use Rattle.cidr_join.specs.Asked.{network_read, only}
pub use Rattle.cidr_join.specs.Comments.{HasEntry, HasNoEntry, comment_len, comment_words, is_skipped}
pub use Rattle.cidr_join.specs.Entries.{EntryFails, HasSecond, LineFaults, Names, NamesNone, Says, SaysSomething, entry_len, entry_part, first_word, is_blank, is_gap, is_name, is_word, trimmed, value_behind, value_of, value_part, word_len}
unfoldable pub use Rattle.cidr_join.specs.Entries.{addresses_of}
pub use Rattle.cidr_join.specs.Groups.{block_in}
pub use Rattle.cidr_join.specs.Joins.{Finds, FindsBy, FindsEither, GivesLine, asked_in, counted_for, counted_in, is_left_out, is_long, is_refused, mark_of, network_in, never, seen_with, shown_in, shown_of}
pub use Rattle.cidr_join.specs.Lists.{AreRead, NotRead, are_cut, lacks_feed, lines_of, list_in, list_text, lists_of}
pub use Rattle.cidr_join.specs.Logs.{GivesOne}
pub use Rattle.cidr_join.specs.Longest.{FindsOver, HasAll, IsLongestOver, NoneHasAll}
pub use Rattle.cidr_join.specs.Options.{entries, pairs}
pub use Rattle.cidr_join.specs.Pairs.{AreNoRange, are_alike, two_of}
pub use Rattle.cidr_join.specs.Private.Counting.{Counted, CountsTexts, found_for, named_by, named_if, repeated, row_of, some_count}
pub use Rattle.cidr_join.specs.Private.Listing.{EndsLines, GoesOn, LineFails, TellsUnread, TellsUntaken, Unread, left_out}
pub use Rattle.cidr_join.specs.Private.Numbering.{AddsNumbers, AnswersOver, AreNumbered, IsNumbering, NumbersRoutes, StandsFor, StandsForEither, found_by, founds_of, number_or_none}
pub use Rattle.cidr_join.specs.Private.TallyProgress.{CountsAll, CountsAsked, CountsLine, CountsLog, CountsNames, CountsSoFar, FailsReading, IsCounted, LineNotCounted, StopsCounting, TellsUncounted}
pub use Rattle.cidr_join.specs.Routes.{EntryHasOne, IsGoodEntry, IsRefusal, Keeps, SetsAll, SetsEntry, Values, no_networks, one_has}
pub use Rattle.cidr_join.specs.Runs.{DoesRequest, EndsAsked, EndsBy, EndsFiles, EndsGrouping, EndsJoining, EndsTally, JoinsLogs, LacksMemory, RunsOut, answers_by, answers_of, lacks_tally, lengths_of, rules_of, status_by}
pub use Rattle.cidr_join.specs.Takes.{RefusesLine, Takes, TakesLine, refuses}
pub use Rattle.cidr_join.specs.Tallies.{IsTally, Row, count_of, counted_by, named, row_cmp, row_text, rows_text}
pub use Rattle.cidr_join.specs.declared.answers.Answers.{Answers}
pub use Rattle.cidr_join.specs.declared.counts.Counts.{Counts}
pub use Rattle.cidr_join.specs.declared.found.Found.{Found}
pub use Rattle.cidr_join.specs.declared.found.Found.TheVariants.{Nothing}
pub use Rattle.cidr_join.specs.declared.help.TheConstants.{HELP, PROGRAM, VERSION}
pub use Rattle.cidr_join.specs.declared.join.Join.{Join}
pub use Rattle.cidr_join.specs.declared.lengths.Lengths.{Lengths}
pub use Rattle.cidr_join.specs.declared.line.Cause.{Cause}
pub use Rattle.cidr_join.specs.declared.list.ListRules.{ListRules}
pub use Rattle.cidr_join.specs.declared.list.Listing.{Listing}
pub use Rattle.cidr_join.specs.declared.list.TakeFault.{TakeFault}
pub use Rattle.cidr_join.specs.declared.pair.Pair.{Pair}
pub use Rattle.cidr_join.specs.declared.reading.ReadList.{ReadList}
pub use Rattle.cidr_join.specs.declared.routes.Networks.{Networks}
pub use Rattle.cidr_join.specs.declared.routes.RouteFault.{RouteFault}
pub use Rattle.cidr_join.specs.declared.routes.Routes.{Routes}
pub use Rattle.cidr_join.specs.declared.tally.Tally.{Tally}
pub use Rattle.cidr_join.specs.declared.value.Value.{Value}
pub use Rattle.cidr_join.specs.declared.value_ids.ValueIds.{ValueIds}
pub use Rattle.ipnetwork.specs.declared.ip_network.IpNetwork.{IpNetwork}
pub use Rattle.ipnetwork_addr.specs.Computed.Either.{either_of, ip_of}
pub use Rattle.ipnetwork_addr.specs.Computed.Ipv4Text.{v4_of}
unfoldable pub use Rattle.ipnetwork_addr.specs.Computed.Ipv6Text.{gap_below, v6_of}
pub use Rattle.ipnetwork_addr.specs.Computed.Reading.{answer_from}
pub use Rattle.ipnetwork_addr.specs.Ipv4Text.{NamesV4}
pub use Rattle.ipnetwork_addr.specs.Ipv6Text.{NamesV6}
pub use Rattle.ipnetwork_addr.specs.Texts.{Colon, Digit, Dot, IsAddressByte, LowerHex, UpperHex}
pub use Rattle.ipnetwork_family.proofs.Blocks.{block_begins, subnet_from, subnet_prefix}
pub use Rattle.ipnetwork_family.proofs.BlocksAt.{block_at_holds, block_at_is}
pub use Rattle.ipnetwork_family.specs.Network.{HostBitsAreZero, IsNetwork, Member, Network, block_at, block_of, network_cmp}
pub use Rattle.ipnetwork_table.proofs.Listing.{listed_is_stored, same_value, stored_is_listed}
pub use Rattle.ipnetwork_table.proofs.Pairs.{one_network, tie_of, total}
pub use Rattle.ipnetwork_table.specs.Table.{HasOnlyBlocks, IsLongest, by_pair, found_by_pair}
pub use Rattle.line_addresses.proofs.Parts.{part_from, parts_from}
pub use Rattle.lines.proofs.Putting.{begins_after_puts, begins_within, puts_more, puts_nothing}
pub use Rattle.lines.proofs.Writes.{still_works}
pub use Rattle.lines.specs.Outputs.{AppendsBeginning, FailsIn, Prints, Writes, Written}
pub use Rattle.lines.specs.Watched.{device_of, has_failed}
pub use Rattle.lines.specs.declared.line_end.LineEnd.{LineEnd}
pub use Rattle.lines.specs.declared.line_end.LineEnd.TheVariants.{EndOfInput, LineFeed, ReturnAndLineFeed}
pub use Rattle.lists.specs.Bytes.{BytesStop}
pub use Rattle.lists.specs.Entries.{IsRange, ReadsEntry}
pub use Rattle.lists.specs.KnownLists.{KnownLists}
pub use Rattle.lists.specs.declared.bytes.BytesFault.{BytesFault}
pub use Rattle.lists.specs.declared.entry.Entry.{Entry}
pub use Rattle.lists.specs.declared.entry.EntryFault.{EntryFault}
pub use Rattle.log_programs.proofs.ReturnedLines.{handed_out}
pub use Rattle.log_programs.proofs.InTurn.{ends_here, goes_more}
pub use Rattle.log_programs.proofs.LogPrints.{after_line, after_long, begins, breaks, log_ends, long_stops}
pub use Rattle.log_programs.proofs.LogReads.{reads_all, reads_break, reads_cut, reads_last, reads_last_long, reads_line, reads_long, reads_nothing}
pub use Rattle.log_programs.proofs.LogsInTurn.{log_more, log_stops, logs_begin, logs_end, name_next, name_within, then_stopped, log_cut}
pub use Rattle.log_programs.specs.InTurn.{InTurn}
pub use Rattle.log_programs.specs.LogReads.{Cuts, PrintsLog, PrintsSoFar, ReadsLog, ReadsSoFar, is_cut}
pub use Rattle.log_programs.specs.LogStats.{nothing, with_line, with_long}
pub use Rattle.log_programs.specs.LogsInTurn.{Finishes, LogsSoFar, StopsLog}
pub use Rattle.log_programs.specs.Unmapping.{asked_network}
pub use Rattle.log_programs.specs.WithoutAddress.{is_missed}
pub use Rattle.log_programs.specs.WithoutAddress.{is_dropped, is_stopped}
pub use Rattle.log_programs.specs.declared.log_stats.LogStats.{LogStats}
pub use Rattle.log_programs.specs.declared.without_address.WithoutAddress.{WithoutAddress}
pub use Rattle.options.proofs.Runs.{done, not_done}
pub use Rattle.options.proofs.Tables.{pairs_of, rows_of}
pub use Rattle.options.specs.Faults.{are_right_by}
pub use Rattle.options.specs.Given.{is_given}
pub use Rattle.options.specs.Items.{free_items, free_mode}
pub use Rattle.options.specs.declared.items.Item.{Item}
pub use Rattle.program.proofs.LogReading.{failed_now}
pub use Rattle.program.proofs.LogStops.{puts_then_all}
pub use Rattle.program.proofs.Puts.{fails_all, fails_first, on_err, puts_it, puts_two, works_still}
pub use Rattle.program.specs.Endings.{Ending, ending, status_of}
pub use Rattle.program.specs.LogFaults.{StopsBy}
pub use Rattle.program.specs.LogLines.{feed_behind, log_line, printed}
pub use Rattle.program.specs.LogReaders.{Breaks, GivesNext, OpenLog, left, line_of, whole_of}
pub use Rattle.program.specs.declared.log_fault.LogFault.{LogFault}
pub use Rattle.program.specs.declared.log_reader.NextLogLine.TheVariants.{End, Line, TooLong}
pub use Rattle.std.proofs.Common.{Bool, List, [], ap, append-nil, append_assoc, arith, cond, drop, drop-cons, false, get_or, inl, inr, length, length-append, length-take, map, min, not, refl, replicate, rules, set, slice_get, subst, suc, sym, take, take-append-drop, true, true≢false, zero, ℕ, ⊎_elim, ◌&&◌, ◌*◌, ◌++◌, ◌+◌, ◌-◌, ◌<◌, ◌==◌, ◌^◌, ◌||◌, ◌∙◌, ◌∷◌, ◌≡◌, ◌≤◌, ◌⊎◌}
pub use Rattle.std.proofs.lemmas.Bool.{cases_Bool, cases_lt, cond-false, cond-true}
pub use Rattle.std.proofs.lemmas.Bool.Decides.{nat_tests}
pub use Rattle.std.proofs.lemmas.Cmp.{eq_by_cmp_equiv}
pub use Rattle.std.proofs.lemmas.Grind.{flat_map-append}
pub use Rattle.std.proofs.lemmas.List.{drop_all, flat_map_more, get_or-map, length-map, length-replicate, length-set, map-append, map-id, map_push, take_all, take_more, take_rest}
pub use Rattle.std.proofs.lemmas.List.Folds.{sum_by-replicate}
pub use Rattle.std.proofs.lemmas.List.Sorted.{IsPermutation-map, sum_by-IsPermutation}
pub use Rattle.std.proofs.lemmas.List.Sums.{sum_by-append, sum_by-cons, sum_by_push}
pub use Rattle.std.proofs.lemmas.Map.Iter.{iter_end}
pub use Rattle.std.proofs.lemmas.Option.{none-some}
pub use Rattle.std.proofs.lemmas.Result.{err_from_is_err_and}
pub use Rattle.std.specs.Cmp.Lexicographic.{bytes_decides, nat_list_eq_equiv, pointwise}
pub use Rattle.std.specs.FinMap.{FinMap, empty, get, get-empty, get-insert, insert, same_map}
unfoldable pub use Rattle.std.specs.Fmt.{digits}
pub use Rattle.std.specs.HashMap.{HashMap, UpdatesBy}
pub use Rattle.std.specs.Io.KnownBytes.{Appends}
unfoldable pub use Rattle.std.specs.List.{IsDistinct}
pub use Rattle.std.specs.List.{AllByRecursion, count_by, flat_map, list_any, range_with_len, slice_index_or, slice_split, sum_by}
pub use Rattle.std.specs.List.Sorted.{IsPermutation, IsSortedBy}
unfoldable pub use Rattle.std.specs.Map.{KeepsOthers}
pub use Rattle.std.specs.Map.{AreApart, IsKeyTest, keys_of, lookup}
pub use Rattle.std.specs.Option.{is_some, option_copied_mut, unwrap_or}
pub use Rattle.std.specs.Ordering.{eq_by_cmp, is_lt}
pub use Rattle.std.specs.Prelude.{Err, IfErr, IfOk, IsSome, IsTrue, None, Ok, OnErr, OnOk, Option, Result, Some, Vec, codes, filter, if◌then◌else◌, is_err, nat_eq, vec_len, ◌↔◌, ◌≢◌}
pub use Rattle.std.specs.Result.{result_ok}
pub use Rattle.std.specs.Str.{bytes_eq}
pub use Rattle.std.specs.String.{string_bytes}
pub use Rattle.std.specs.declared.cmp.Reverse.{Reverse}
