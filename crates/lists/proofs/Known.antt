-- The words and the lemmas that answers cite, passed on from one place.

pub use Rattle.lists.proofs.Words.{Bool, Consumes, Consumes-trans, Data, Encoding, Entry, EntryFault, Err, FailsBytes, FailsDocuments, FailsLines, GivesLength, HasNoFeed, IfErr, InputTooLong, IpNetwork, IsEntryCause, IsLineOf, IsPending, List, MatchBool, NamesEntry, NamesIpNetwork, NamesV4, None, NotJson, Ok, OnOk, Option, OutOfMemory, Read, ReadFault, ReadLists, ReadsCsv, ReadsCsvNetwork, ReadsEntry, ReadsNft, ReadsPart, ReadsRange, Result, SaysSome, Some, StopsAtDocument, Strings, Takes, TakesBefore, TakesBytes, TakesLines, TakesSome, TakesStrings, Value, YieldsList-end, YieldsList-from_lines, [], after_word, ap, append-nil, are_documents_of_lines, arith, asked, at_list, before_first, bytes_eq, codes, count_of, creates, csv_head, csv_line, device_of, document_of_line, documents_of, documents_of_lines, drop, drop-cons, fails_reading, false, first_word, fits, get_or, has_failed, has_field, has_gap, have_field, if_any, inl, inr, is_address_byte, is_ascii_digit, is_comma, is_entry_byte, is_named, is_nft_frame, is_separator, is_slash, is_strict, items_have_field, items_view, length, length-append, length-map, length-take, lines, list_all, list_any, looks_like_address, looks_like_any, map, map_push, members_have_field, members_view, ne_eqb, nft_part, not, option_map, prefix_len, refl, second_field, still_works, string_bytes, strings_by, strings_of, strings_of_all, strings_of_items, strings_of_members, subst, suc, suffix_len, sym, take, texts_of_items, texts_of_members, texts_within, told_cause, trimmed, true, true≢false, view, waits, work, ℕ, ◌++◌, ◌+◌, ◌-◌, ◌<◌, ◌==◌, ◌||◌, ◌∙◌, ◌∷◌, ◌≡◌, ◌≢◌, ◌≤◌}
pub use Rattle.lists.proofs.Documents.{document_ends, stops_unread, strings_joined}
pub use Rattle.lists.proofs.Ends.{NoneYet, no_line, no_line_yet, some_line, some_long_line, tells_end, told_cut, told_whole}
pub use Rattle.lists.proofs.Gained.{pushed}
pub use Rattle.lists.proofs.ReturnedLines.{TakesSoFar, ends, goes_idle, goes_on, runs_out, stops_reading, stops_too_long, takes_all, takes_line, takes_none, takes_too_long, takes_whole}
pub use Rattle.lists.proofs.GoodEntries.{good_entry}
pub use Rattle.lists.proofs.Mapped.{none_named, some_named}
pub use Rattle.lists.proofs.NamedLists.{read_stopped, read_whole}
pub use Rattle.lists.proofs.Dashes.{network_read, not_empty, range_read, rest_of}
pub use Rattle.lists.proofs.PlainTexts.{network_texts, v4_texts, v6_texts}
pub use Rattle.lists.proofs.Taken.{takes_more}
pub use Rattle.lists.proofs.Trims.{before_either, found_after, found_before, none_after, none_before}
pub use Rattle.lists.proofs.TwoWords.{mask_turned, no_address, no_length, no_number, wildcard_turned}
pub use Rattle.lists.proofs.WholeLists.{bytes_read, bytes_stop}
pub use Rattle.lists.proofs.JsonTexts.{document_has_text, line_added, none_read, pushed_last, some_read, stops_at_line}
pub use Rattle.std.proofs.lemmas.Iterator.Consumers.{YieldsList-so_far, YieldsList-turn}
pub use Rattle.lists.proofs.Choices.{or_first, or_later}
pub use Rattle.lists.proofs.CsvRead.{after_line, no_network, reads}
pub use Rattle.lists.proofs.PrintedLines.{printed_lines}
