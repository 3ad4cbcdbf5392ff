-- The words and the lemmas that answers cite, passed on from one place.
pub use Rattle.cidr_filter.proofs.Words.{AppendsBeginning, Bool, DoesRequest, Ending, EndsRequest, Err, FailsIn, Filter, FiltersLine, FiltersLog, FiltersLogs, HELP, HasOnly, HoldsRead, IfErr, IfOk, IpNetwork, IsVerdictOfAddresses, Item, KnownLists, LiesInIpUnion, List, LogsSoFar, Matcher, Ok, OnOk, Outcome, PROGRAM, PrintsSoFar, Puts, ReadFault, ReadLists, ReadsAll, ReadsItems, Refused, Result, Some, StopsAtItems, StopsAtLists, StopsLog, TakesLog, Tally, VERSION, Written, [], addresses_in, after_line, after_long, ap, append-nil, arith, asked_network, begins, breaks, decimal, device_of, done, drop, drop-cons, drop_all, ending, err_from_is_err_and, failed_now, fails_all, fails_first, false, feed_behind, filter_of, full_here, get_or, handed_out, has_failed, head_of, inl, inputs_of, inr, is_enough, is_full, is_read_within, is_silent, is_stopped_by, is_within, left, length, line_stops, log_ends, log_left, log_more, log_stops, logs_begin, logs_end, long_stops, map-id, mark_of, name_head, name_next, name_within, no_refusals, not_done, nothing, nothing_read, number_head, puts_it, puts_more, puts_none, puts_nothing, puts_out, puts_two, question_of, refl, rules, rules_of, shown_of, spelled_at, status_by, still_works, string_bytes, subst, suc, sym, take, tally_with, text_of, texts_of, true, true≢false, unwritten, works_still, ℕ, ◌++◌, ◌+◌, ◌-◌, ◌<◌, ◌∙◌, ◌∷◌, ◌≡◌, ◌≤◌, ◌⊎◌}
pub use Rattle.cidr_filter.proofs.Among.{second_of, test_is}
pub use Rattle.cidr_filter.proofs.Copying.{by_address, only_counted}
pub use Rattle.cidr_filter.proofs.Heads.{no_head, no_number, no_text, some_count, some_head, some_number}
pub use Rattle.cidr_filter.proofs.Judging.{Passes, all_left, all_of, by_each, by_one, by_part, counted, inside, no_part, not_long, one_inside, one_other, one_outside, outside, passed, picked_one, picked_without, skipped, without}
pub use Rattle.cidr_filter.proofs.Lines.{copying_stops, left_out, not_written, passes, stops}
pub use Rattle.cidr_filter.proofs.LogsInTurn.{count_failed, name_filtered, name_missed, name_stops, put_not, put_ok}
pub use Rattle.cidr_filter.proofs.ReadInTurn.{all_read, all_stopped, blocks_held, sets_held}
pub use Rattle.cidr_filter.proofs.Tables.{same_networks}
pub use Rattle.cidr_filter.proofs.Texts.{all_put, fails_at, next_text, of_each, of_no_part, of_no_picked, of_one, of_part, of_picked, one_more}
