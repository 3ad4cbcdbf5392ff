-- The words of this crate and of those below, passed on from one place.
pub use Rattle.byte_search.specs.Bytes.{IsAbsent, IsNext}
pub use Rattle.ipnetwork.specs.IpNetworkText.{NamesIpNetwork, ip_network_text}
pub use Rattle.ipnetwork.specs.IpNetworks.{IsIpNetwork}
pub use Rattle.ipnetwork.specs.declared.ip_network.IpNetwork.{IpNetwork}
pub use Rattle.ipnetwork_addr.specs.Computed.Ipv4Text.{v4_of}
unfoldable pub use Rattle.ipnetwork_addr.specs.Computed.Ipv6Text.{gap_below, v6_of}
pub use Rattle.ipnetwork_addr.specs.Either.{NamesIp}
pub use Rattle.ipnetwork_addr.specs.Computed.Ipv6Canonical.{canonical_v6}
pub use Rattle.ipnetwork_addr.specs.Ipv4Text.{NamesV4, canonical_v4}
pub use Rattle.ipnetwork_addr.specs.Ipv6Text.{NamesV6}
pub use Rattle.ipnetwork_addr.specs.Texts.{Colon, Digit, Dot, IsAddressByte, LowerHex, UpperHex}
pub use Rattle.ipnetwork_addr.specs.declared.ip.IpAddr.{IpAddr}
pub use Rattle.ipnetwork_addr.specs.declared.ip.IpAddr.TheVariants.{V4, V6}
pub use Rattle.ipnetwork_blocks.proofs.AggregateUnions.{in_union_push, union_append}
pub use Rattle.ipnetwork_blocks.proofs.LeastLists.{contains_cons, contains_head, contains_nil, contains_tail}
pub use Rattle.ipnetwork_blocks.proofs.MaximalBlocks.{range_is_shortest}
pub use Rattle.ipnetwork_blocks.specs.Aggregate.{InUnion}
pub use Rattle.ipnetwork_blocks.specs.Ranges.{FromTo}
pub use Rattle.ipnetwork_family.specs.Ipv4NetworkText.{IsV4Suffix}
pub use Rattle.ipnetwork_family.specs.Ipv6NetworkText.{IsV6Suffix}
pub use Rattle.ipnetwork_family.specs.Network.{Member, Network}
pub use Rattle.ipnetwork_family.specs.NetworkText.{Alone, IsNetworkByte, NamesNetwork, Suffixed, slash}
pub use Rattle.ipnetwork_family.specs.PrefixNumber.{IsPrefixNumber}
pub use Rattle.lines.proofs.FirstLines.{are_all, first_still, next_first}
pub use Rattle.lines.proofs.ReturnedLines.{has_no}
unfoldable pub use Rattle.lines.proofs.Lines.{last_line}
unfoldable pub use Rattle.lines.proofs.Lines.{lines_from, pending_from}
pub use Rattle.lines.proofs.Lines.{first_are_complete, lines-append, lines_complete, lines_last, lines_split, newline_cases, pending-append, pending_other}
pub use Rattle.lines.proofs.Writes.{still_works}
pub use Rattle.lines.specs.LineBuffers.{AreFirst, Buffered, Gives, HasNoFeed, IsFirstLine, IsPending, waits, work}
pub use Rattle.lines.specs.Beginnings.{IsBeginning, asked, complete_part}
pub use Rattle.lines.specs.Watched.{device_of, has_failed}
pub use Rattle.lines.specs.declared.fault.RunFault.{RunFault}
pub use Rattle.lines.specs.declared.fault.RunFault.TheVariants.{InputTooLong, Read}
pub use Rattle.lines.specs.declared.line_buffer.NextLine.TheVariants.{Ask, End, Line, TooLong}
pub use Rattle.lines.specs.declared.line_end.LineEnd.{LineEnd}
pub use Rattle.lines.specs.declared.line_end.LineEnd.TheVariants.{EndOfInput, LineFeed, ReturnAndLineFeed}
pub use Rattle.lists.specs.Added.{AddsBlocks, AddsEntry}
pub use Rattle.lists.specs.Bytes.{BytesStop, IsAllOf}
pub use Rattle.lists.specs.CsvLines.{IsLineOf, ReadsCsv, ReadsCsvNetwork, csv_head, csv_line, is_comma, second_field}
pub use Rattle.lists.specs.Documents.{AreNoDocuments, LackField, ReadsDocument, StopsAtDocument, TakesDocuments, TakesStrings, is_strict, strings_by, strings_of, strings_of_all, strings_of_items, strings_of_members}
pub use Rattle.lists.specs.Encodings.{encoding_of}
pub use Rattle.lists.specs.Entries.{HasDash, IsEntryCause, IsRange, NamesEntry, NamesNone, ReadsEntry, entry_text, is_dash, told_cause}
pub use Rattle.lists.specs.Fields.{field_strings_of, first_lacking, has_field, have_field, is_named, items_have_field, members_have_field, texts_of_items, texts_of_members, texts_within}
pub use Rattle.lists.specs.JsonTexts.{document_of_line, documents_of, documents_of_lines, if_any}
pub use Rattle.lists.specs.KnownLists.{KnownLists, nothing_known}
pub use Rattle.lists.specs.Laws.{NetworkTextsAreEntries, PrintedLinesAreRead}
pub use Rattle.lists.specs.LineForms.{ReadsEntryBy, ReadsNft, ReadsPart, creates, fits, ipset_part, is_command, is_name_byte, is_nft_frame, nft_part, without_comma}
pub use Rattle.lists.specs.Lines.{before_comment, begins_comment, comment_text, is_blank, is_gap, trimmed, without_end, without_front}
pub use Rattle.lists.specs.Looks.{count_of, has_gap, is_address_byte, is_entry_byte, is_separator, is_slash, looks_like_address, looks_like_any, looks_like_entry}
pub use Rattle.lists.specs.Lists.{Gains, HasAddress, Names, ReadLists, RunsOut, Takes, TakesAllowed, TakesEntry, TakesLine, TakesLines, TakesReading, at_list, at_next_line, refusing}
pub use Rattle.lists.specs.Masks.{IsBoth, IsMask, IsUnclear, IsWildcard, NamesMasked, SaysLength, SaysNone, SaysSome, after_word, first_word, is_word_byte}
pub use Rattle.lists.specs.Private.Bytes.{ReadsAll, ReadsMore, StopsReading}
pub use Rattle.lists.specs.Private.Documents.{FailsBytes, TakesBytes, not_read}
pub use Rattle.lists.specs.Private.JsonTexts.{FailsDocuments, FailsLine, FailsLines, are_documents_of_lines, documents_in}
pub use Rattle.lists.specs.Private.Kinds.{ReadsNetworkText, ReadsPlain, ReadsRange}
pub use Rattle.lists.specs.Private.Masked.{GivesLength, GivesOneLength, IsNotMasked}
pub use Rattle.lists.specs.Private.Readings.{end_of}
pub use Rattle.lists.specs.Private.Taking.{IsGoodEntry}
pub use Rattle.lists.specs.Private.Waiting.{HasNoLine, TakesSome, TakesWhole, TellsEnd, TellsNone}
pub use Rattle.lists.specs.Reading.{FailsReading, ReadsFirst, ReadsList, StopsAt}
pub use Rattle.lists.specs.Refusals.{Refused, with_refusal}
pub use Rattle.lists.specs.Rules.{has_host_bits, lenient, refuses}
pub use Rattle.lists.specs.Stopped.{EndsWithFeed, IsCut, StopsList, ends_with_feed, TakesBefore, fails_reading}
pub use Rattle.lists.specs.declared.bytes.BytesFault.{BytesFault}
pub use Rattle.lists.specs.declared.chosen.Strings.{Strings}
pub use Rattle.lists.specs.declared.chosen.Strings.TheVariants.{LookingLikeEntries, All, OfFields}
pub use Rattle.lists.specs.declared.encoding.Encoding.{Encoding}
pub use Rattle.lists.specs.declared.encoding.Encoding.TheVariants.{ByteOrderMark, Gzip, Nul, Utf16}
pub use Rattle.lists.specs.declared.entry.Entry.{Entry}
pub use Rattle.lists.specs.declared.entry.Entry.TheVariants.{Range}
pub use Rattle.lists.specs.declared.entry.EntryFault.{EntryFault}
pub use Rattle.lists.specs.declared.fault.LineFault.{LineFault}
pub use Rattle.lists.specs.declared.named.ReadFault.{ReadFault}
pub use Rattle.lists.specs.declared.named.ReadFault.TheVariants.{Cut, Length, NotJson, Open, OutOfMemory, NoField}
pub use Rattle.lists.specs.declared.read.ListFault.{ListFault}
pub use Rattle.lists.specs.declared.refusals.Refusal.{Refusal}
unfoldable pub use Rattle.serde_json.proofs.OnLiterals.{serde_json_on_literals}
pub use Rattle.serde_json.specs.Data.{Data, array, boolean, item, member, no_items, no_members, null, number, object, string, unsigned}
pub use Rattle.serde_json.specs.Read.{read}
pub use Rattle.serde_json.specs.View.{items_view, members_view, view}
pub use Rattle.serde_json.specs.declared.value.Value.{Value}
pub use Rattle.std.proofs.Common.{Bool, List, [], ap, append-nil, append_assoc, arith, cond, drop, drop-cons, false, get_or, inl, inr, length, length-append, length-drop, length-take, min, not, refl, subst, suc, sym, take, true, true≢false, zero, ℕ, ⊎_elim, ◌++◌, ◌+◌, ◌-◌, ◌<◌, ◌==◌, ◌^◌, ◌||◌, ◌↔◌, ◌∙◌, ◌∷◌, ◌≡◌, ◌≢◌, ◌≤◌, ◌⊎◌}
pub use Rattle.std.proofs.KnownBytes.{Consumes-kept, Consumes-trans}
pub use Rattle.std.proofs.lemmas.Bool.{eq-eqb, eqb-true, ltb-false, ltb-true, ne_eqb}
pub use Rattle.std.proofs.lemmas.Iterator.Consumers.{YieldsList-end}
pub use Rattle.std.proofs.lemmas.Iterator.Splits.{YieldsList-from_lines}
pub use Rattle.std.proofs.lemmas.List.{drop_all, drop_more, get_or-append_right, get_or_push, length-map, map_push, take-append-drop, take_all, take_at, take_more}
pub use Rattle.std.proofs.lemmas.List.Sums.{position_or_len_is, suffix_len_is}
pub use Rattle.std.proofs.Math.Pow.{pow_mono}
pub use Rattle.std.proofs.Math.Seq.{drop-append_seam, get_or-append_seam}
pub use Rattle.std.proofs.lemmas.Nat.{pow_pos}
pub use Rattle.std.proofs.lemmas.Option.{none-some}
pub use Rattle.std.proofs.lemmas.Str.Parse.{digit_from_value}
unfoldable pub use Rattle.std.specs.Fmt.{digits}
pub use Rattle.std.specs.Char.{is_ascii_digit}
pub use Rattle.std.specs.Io.KnownBytes.{Consumes, IsAtEnd, Keeps}
pub use Rattle.std.specs.List.{AllByRecursion, Contains, after_first, before_first, list_all, list_any, position, position_or_len, prefix_len, range_with_len, suffix_len}
pub use Rattle.std.specs.Prelude.{Err, IfErr, IfOk, IsTrue, MatchBool, None, Ok, OnOk, Option, Result, Some, String, bytes_eq, codes, decimal, filter, if◌then◌else◌, is_err, is_ok, is_some, map, nat_lt, option_and_then, option_map, slice_index}
pub use Rattle.std.specs.Str.Lines.{lines}
pub use Rattle.std.specs.String.{string_bytes}
pub use Rattle.std.specs.Str.Parse.{AllDigits}
