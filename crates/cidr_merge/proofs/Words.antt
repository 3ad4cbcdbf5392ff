-- The words of this crate and of those below, passed on from one place.
pub use Rattle.byte_search.specs.Bytes.{IsAbsent, IsNext}
pub use Rattle.cidr_merge.specs.Answers.{AreBoth, AreCountLines, AreCounts, AreCountsLeft, IsCount, IsLeft, IsLeftOfSecond, block_line, count_line, merged, merged_by, merged_ranges, range_line, sign_of}
pub use Rattle.cidr_merge.specs.Bounds.{allows, bound_in, large_number}
pub use Rattle.cidr_merge.specs.CommandLines.{command_of, sets_of, told_of}
pub use Rattle.cidr_merge.specs.Endings.{EndsAsked, EndsBy}
pub use Rattle.cidr_merge.specs.Exports.{address_line, closing, element, export_text, family_name, family_text, following, frame_text, ipset_foot, ipset_head, is_any, listed}
pub use Rattle.cidr_merge.specs.Families.{looked_at}
pub use Rattle.cidr_merge.specs.FindRuns.{EndsReadingAll, EndsSearching, search_status}
pub use Rattle.cidr_merge.specs.FindWords.{AreNetworks, HasWrongWord, with_networks}
pub use Rattle.cidr_merge.specs.Findings.{IsFound, cut_findings, cut_text, end_findings, ends_findings, ends_if, findings_by, has_host_bits, end_line, host_findings, is_open, line_findings, lists_findings, place_text}
pub use Rattle.cidr_merge.specs.Finds.{has_refused, is_refused, line_matches, lists_matches, match_lines, matches_by, do_meet, has_words, lines_by, relation_text}
pub use Rattle.cidr_merge.specs.FieldNames.{fields_of}
pub use Rattle.cidr_merge.specs.Forms.{form_called, form_of, line_form_called, most_in, prefix_in, shape_of}
pub use Rattle.cidr_merge.specs.FreeRuns.{EndsPrinting, others_if}
pub use Rattle.cidr_merge.specs.HeldBack.{HasNetworks, IsChange, IsHeldBack, least_number}
pub use Rattle.cidr_merge.specs.InspectionRuns.{EndsOrdered, findings_status}
pub use Rattle.cidr_merge.specs.NamedLists.{lists_of, text_in}
pub use Rattle.cidr_merge.specs.NumberedLines.{NumberedLine, address_or_prefix, as_said, entry_alone, entry_by_words, entry_of_two, entry_or_none, is_both, is_range, length_by, length_of_two, masked_entry, masked_or_none, masked_reading, network_by, network_entry, network_of_two, says_by_words, network_fault, alone, another_form, numbered_lines, part_reading, plain_entry, printed_network, range_between, reading_in, reading_of, said_by, some_entry, text_entry, told_entry}
pub use Rattle.cidr_merge.specs.Options.{IsOptions, entries, pairs}
pub use Rattle.cidr_merge.specs.Overlaps.{IsInOrder, Listed, ends_of, is_up_to, line_entries, listed_cmp, lists_entries, pair_text, pairs_after, pairs_with, reaches, relation}
pub use Rattle.cidr_merge.specs.Pieces.{network_line, pieces, pieces_text}
pub use Rattle.cidr_merge.specs.Private.Entries.{KeepsReaching, address_of, listed_as, overlaps}
pub use Rattle.cidr_merge.specs.Private.LinesLeft.{lines_left, sought_as, sought_in}
pub use Rattle.cidr_merge.specs.Private.PlacesFound.{AreUpTo, EndBy, HaveReaching}
pub use Rattle.cidr_merge.specs.Private.Printing.{PutsSome, WritesOrFails}
pub use Rattle.cidr_merge.specs.Private.ReadErrors.{not_read}
pub use Rattle.cidr_merge.specs.Private.Reported.{TellsFound}
pub use Rattle.cidr_merge.specs.Private.SoughtPlaces.{AreAscending, AreFound, AreOuters, ArePlacesOf, Place, is_v6, number_of, place_of}
pub use Rattle.cidr_merge.specs.Private.Sweeps.{blocks_left, left_of_second, with_head}
pub use Rattle.cidr_merge.specs.Private.Totals.{AddUp}
pub use Rattle.cidr_merge.specs.Reading.{ReadsLists, ReadsSide, ReadsSides}
pub use Rattle.cidr_merge.specs.Reductions.{lacks_number}
pub use Rattle.cidr_merge.specs.Repetitions.{found_among, further, other_of, overlap_with, repetitions, repetitions_after}
pub use Rattle.cidr_merge.specs.RightWords.{are_wrong_files, are_wrong_sides, files_among, from_of, is_wrong, takes}
pub use Rattle.cidr_merge.specs.Runs.{answer_status}
pub use Rattle.cidr_merge.specs.SetNames.{Names, is_limit, is_set_name, line_of, usual_names}
pub use Rattle.cidr_merge.specs.Shapes.{ReadsFile, ReadsOne, Source, StopsBy, StopsFile, StopsOne, source, rules_of, strings_in}
pub use Rattle.cidr_merge.specs.Sides.{before_dashes, behind_dashes}
pub use Rattle.cidr_merge.specs.SoughtLines.{has_other, line_is_other, line_sought, lists_sought, network_in}
pub use Rattle.cidr_merge.specs.Spelling.{spelled_out}
pub use Rattle.cidr_merge.specs.Splits.{lacks_networks}
pub use Rattle.cidr_merge.specs.Stopping.{Stops, StopsInSides}
pub use Rattle.cidr_merge.specs.Tasks.{task_called}
pub use Rattle.cidr_merge.specs.Texts.{AreTexts, FileStops, IsText, IsTextAs, StopsAs, TextStops, TextsStop, Whole, whole}
pub use Rattle.cidr_merge.specs.Writing.{EndsWriting}
pub use Rattle.cidr_merge.specs.declared.bounds.Bound.TheVariants.{Any, Number, Percent}
pub use Rattle.cidr_merge.specs.declared.command_line.Command.{Command}
pub use Rattle.cidr_merge.specs.declared.command_line.Form.TheVariants.{Blocks, Counts, Exported, Ranges}
pub use Rattle.cidr_merge.specs.declared.command_line.Operation.{Operation}
pub use Rattle.cidr_merge.specs.declared.command_line.Operation.TheVariants.{Common, Differ, Minus, Union}
pub use Rattle.cidr_merge.specs.declared.command_line.ReduceRequest.{ReduceRequest}
pub use Rattle.cidr_merge.specs.declared.command_line.Request.{Request}
pub use Rattle.cidr_merge.specs.declared.exports.Export.TheVariants.{Addresses, Csv, Ipset, Json, Netmask, Nft, Wildcard}
pub use Rattle.cidr_merge.specs.declared.exports.Frame.TheVariants.{FamilyFoot, FamilyHead, Foot, Head, Opening}
pub use Rattle.cidr_merge.specs.declared.exports.Version.{Version}
pub use Rattle.cidr_merge.specs.declared.help.TheConstants.{HELP, VERSION}
pub use Rattle.cidr_merge.specs.declared.merge_join.Side.TheVariants.{First, Second}
pub use Rattle.cidr_merge.specs.declared.placed.Placed.{Placed}
pub use Rattle.cidr_merge.specs.declared.reading.Sets.{Sets}
pub use Rattle.cidr_merge.specs.declared.shapes.Shape.{Shape}
pub use Rattle.cidr_merge.specs.declared.sought.Sought.{Sought}
pub use Rattle.cidr_merge.specs.declared.sought_places.Places.{Places}
pub use Rattle.cidr_merge.specs.declared.tasks.Task.{Task}
pub use Rattle.ipnetwork.specs.Computed.IpNetworkText.{ip_network_of}
pub use Rattle.ipnetwork.specs.IpNetworkText.{NamesIpNetwork, ReadsIpNetwork}
pub use Rattle.ipnetwork.specs.declared.ip_network.IpNetwork.{IpNetwork}
pub use Rattle.ipnetwork_addr.specs.Computed.Either.{ip_of}
pub use Rattle.ipnetwork_addr.specs.Computed.Ipv4Text.{v4_of}
unfoldable pub use Rattle.ipnetwork_addr.specs.Computed.Ipv6Text.{gap_below, v6_of}
pub use Rattle.ipnetwork_addr.specs.Computed.Reading.{answer_from}
pub use Rattle.ipnetwork_addr.specs.Either.{NamesIp, ip_cmp}
pub use Rattle.ipnetwork_addr.specs.Ipv4Text.{NamesV4, canonical_v4}
pub use Rattle.ipnetwork_addr.specs.Ipv6Text.{NamesV6}
pub use Rattle.ipnetwork_addr.specs.Reading.{Reads}
pub use Rattle.ipnetwork_addr.specs.Texts.{Colon, Digit, Dot, IsAddressByte, LowerHex, UpperHex, dot}
pub use Rattle.ipnetwork_addr.specs.declared.error.AddrParseError.{AddrParseError}
pub use Rattle.ipnetwork_addr.specs.declared.error.AddrParseError.TheVariants.{Ip}
pub use Rattle.ipnetwork_addr.specs.declared.ip.IpAddr.{IpAddr}
pub use Rattle.ipnetwork_addr.specs.declared.ip.IpAddr.TheVariants.{V4, V6}
pub use Rattle.ipnetwork_blocks.proofs.LeastLists.{contains_nil, least_of_none, least_of_same}
pub use Rattle.ipnetwork_blocks.specs.Aggregate.{InUnion, IsAggregate}
pub use Rattle.ipnetwork_blocks.specs.LeastList.{IsLeastList}
pub use Rattle.ipnetwork_blocks.specs.Subnets.{subnets_of}
pub use Rattle.ipnetwork_family.specs.Computed.Network.{is_member, prefix_of_mask}
pub use Rattle.ipnetwork_family.specs.Family.{Family, text_of, v4_family, v6_family}
unfoldable pub use Rattle.ipnetwork_family.specs.Network.{count_up}
pub use Rattle.ipnetwork_family.specs.Network.{Network, block_size, high, low, mask_of}
pub use Rattle.ipnetwork_family.specs.Laws.{MaskIsComputed}
pub use Rattle.ipnetwork_family.specs.NetworkText.{Alone, NamesNetwork, Suffixed, before_slash, slash, slashes}
pub use Rattle.ipnetwork_family.specs.declared.error.CidrFault.{CidrFault}
pub use Rattle.ipnetwork_sets.specs.CountLaws.{SetHasFewerBlocks}
pub use Rattle.ipnetwork_sets.specs.Counts.{HasCount, count_number, total}
pub use Rattle.ipnetwork_sets.specs.RangeLists.{IsRangeList}
pub use Rattle.ipnetwork_sets.specs.Sets.{InFirstAlone}
pub use Rattle.ipnetwork_sets.specs.declared.address_count.AddressCount.{AddressCount}
pub use Rattle.lines.proofs.BytesLemmas.{IsFirst, first_behind, none_behind, split_text}
unfoldable pub use Rattle.lines.proofs.Lines.{last_line}
pub use Rattle.lines.proofs.Lines.{lines_last, lines_line}
pub use Rattle.lines.proofs.Putting.{puts_more, puts_nothing}
pub use Rattle.lines.specs.Outputs.{AppendsBeginning, FailsIn, Prints, Puts, Written}
pub use Rattle.lines.specs.declared.fault.RunFault.{RunFault}
pub use Rattle.lists.proofs.Feeds.{feed_is_told, told_is_feed}
pub use Rattle.lists.proofs.Printed.{map_contains}
pub use Rattle.lists.specs.Bytes.{BytesStop, IsAllOf}
pub use Rattle.lists.specs.Documents.{ReadsDocument, StopsAtDocument}
pub use Rattle.lists.specs.Entries.{HasDash, IsEntryCause, IsPlainCause, IsRange, IsRefusedFor, NamesEntry, NamesNone, NamesSome, ReadsEntry, entry_text, is_dash}
pub use Rattle.lists.specs.CsvLines.{ReadsCsvNetwork, csv_head, csv_line, second_field}
pub use Rattle.lists.specs.KnownLists.{KnownLists}
pub use Rattle.lists.specs.LineForms.{ReadsIn, ReadsPart, ipset_part, is_command, is_nft_frame, nft_part}
pub use Rattle.lists.specs.Masks.{IsBoth, IsMask, IsRefusedWithMasks, IsUnclear, IsWildcard, NamesMasked, NamesTwo, NamesWithMasks, ReadsWithMasks, SaysLength, SaysNone, SaysSome, after_word, first_word, is_word_byte}
pub use Rattle.lists.specs.declared.forms.LineForm.{LineForm}
pub use Rattle.lists.specs.declared.rules.Rules.{Rules}
pub use Rattle.lists.specs.Lines.{comment_text, is_blank, trimmed, without_front}
pub use Rattle.lists.specs.Stopped.{EndsWithFeed, ends_with_feed}
pub use Rattle.lists.specs.Lists.{ReadLists, nothing_read}
pub use Rattle.lists.specs.Refusals.{Refused, no_refusals}
pub use Rattle.lists.specs.declared.bytes.BytesFault.{BytesFault}
pub use Rattle.lists.specs.declared.chosen.Strings.{Strings}
pub use Rattle.lists.specs.declared.entry.Entry.{Entry}
pub use Rattle.lists.specs.declared.entry.Entry.TheVariants.{Range}
pub use Rattle.lists.specs.declared.entry.EntryFault.{EntryFault}
pub use Rattle.lists.specs.declared.named.ReadFault.{ReadFault}
pub use Rattle.lists.specs.Rules.{lenient}
pub use Rattle.lists.specs.declared.named.ReadFault.TheVariants.{Cut, OutOfMemory}
pub use Rattle.options.proofs.Tables.{pairs_of, rows_of}
pub use Rattle.options.specs.Faults.{pair_fault}
pub use Rattle.options.specs.Items.{free_items}
pub use Rattle.options.specs.declared.items.Item.{Item}
pub use Rattle.options.specs.declared.table.Row.{Row}
pub use Rattle.options.specs.declared.table.Table.{Table}
pub use Rattle.program.proofs.Puts.{begins_written, fails_first, puts_it, puts_none, puts_two, works_still}
pub use Rattle.program.proofs.Reported.{tells_more, tells_nothing, tells_on, tells_same}
pub use Rattle.program.proofs.Runs.{not_asked, printed}
pub use Rattle.program.specs.Endings.{Ending, ending, status_of}
pub use Rattle.program.specs.Messages.{Reports}
pub use Rattle.program.specs.Putting.{PutsOrFails}
pub use Rattle.program.specs.Reported.{name_at}
pub use Rattle.program.specs.Words.{is}
pub use Rattle.std.proofs.Common.{Bool, List, [], ap, append-nil, append_assoc, arith, cond, decimal, drop, drop-cons, false, filter, get_or, inl, inr, length, length-take, map, min, not, of_calls, refl, rules, set, subst, suc, sym, take, true, zero, ℕ, ⊎_elim, ◌&&◌, ◌%◌, ◌*◌, ◌++◌, ◌+◌, ◌-◌, ◌/◌, ◌<◌, ◌==◌, ◌^◌, ◌||◌, ◌↔◌, ◌∙◌, ◌∷◌, ◌≡◌, ◌≢◌, ◌≤◌}
pub use Rattle.std.proofs.KnownBytes.{Appends-trans}
pub use Rattle.std.proofs.Math.Dec.{eqb-suc-zero}
pub use Rattle.std.proofs.Math.Nat.{div-mul-le_self, le-div_iff_mul-le, lt-div-mul-add, min-eq_left, min-eq_right, zero-div}
pub use Rattle.std.proofs.Math.Pow.{pow_mono}
pub use Rattle.std.proofs.Math.Seq.{drop-length, drop-nil, take-append_seam, take-length}
pub use Rattle.std.proofs.lemmas.Bool.{and_from, cases_lt, eqb-true, le-leb, le-ltb, leb-true, lt-ltb, ltb-true, ne_eqb, true≢false}
pub use Rattle.std.proofs.lemmas.Grind.{flat_map-append}
pub use Rattle.std.proofs.lemmas.List.{at_drop_more, drop-drop, drop-map, drop-set-lt, get_or-drop, get_or-map, get_or-reverse, get_or-take, get_or_append_left, get_or_default, get_or_push, length-append, length-drop, length-map, length-set, length-take-le, map-append, map_push, take-append-drop, take-map, take-set, take-set-le, take_more, take_more_set, take_rest}
pub use Rattle.std.proofs.lemmas.List.Elements.{All-append, All-drop, All-map, All-push, All-take, Contains-append_left, Contains-append_right, filter-append}
pub use Rattle.std.proofs.lemmas.List.Filters.{FiltersInPlace, FiltersInPlace-more_no, FiltersInPlace-more_swap}
pub use Rattle.std.proofs.lemmas.List.Folds.{concat-append}
pub use Rattle.std.proofs.lemmas.List.Sums.{prefix_len_passes}
pub use Rattle.std.proofs.lemmas.List.Sorted.{All-permutation, Contains-permutation, IsNonDecreasingBy-drop, IsNonDecreasingBy-from_all_adjacent, IsNonDecreasingBy-from_sort, IsPartitionPoint-from_clause, IsPermutation-map, length_permutation}
pub use Rattle.std.proofs.lemmas.Map.Keys.{le_from_is_le}
pub use Rattle.std.proofs.lemmas.Nat.{pow_pos}
pub use Rattle.std.proofs.lemmas.Result.{err_from_is_err_and}
pub use Rattle.std.proofs.lemmas.Str.Pattern.{strip_prefix_char}
pub use Rattle.std.specs.Cmp.{nat_cmp_is}
unfoldable pub use Rattle.std.specs.Fmt.{digits}
pub use Rattle.std.specs.Io.KnownBytes.{Appends}
unfoldable pub use Rattle.std.specs.Int.Count.{count_leading_zeros}
pub use Rattle.std.specs.Int.Digits.{number_from_digits}
pub use Rattle.std.specs.List.{All, AllByRecursion, Contains, SwappedAt, after_first, before_first, concat, flat_map, list_any, position_or_len, prefix_len, range_with_len, slice_split, suffix_len}
pub use Rattle.std.specs.List.Sorted.{IsNonDecreasing, IsPartitionPoint, IsPartitionedBy, IsPermutation, IsSorted}
pub use Rattle.std.specs.Option.{is_some, option_or}
pub use Rattle.std.specs.Ordering.{bool_cmp, is_le, is_lt, nat_cmp, ordering_then}
pub use Rattle.std.specs.Prelude.{Err, IfErr, IsFalse, IsTrue, MatchBool, MatchOption, None, Ok, OnErr, OnOk, Option, Result, Some, String, bytes_eq, codes, if◌then◌else◌, is_err, nat_le, nat_lt, reverse, slice_index_or, ◌⊎◌}
pub use Rattle.std.specs.Result.{is_ok}
pub use Rattle.std.specs.Str.Parse.{digits_value}
pub use Rattle.std.specs.Str.Lines.{lines, strip_carriage_return}
pub use Rattle.std.specs.String.{string_bytes}
pub use Rattle.std.specs.declared.cmp.Ordering.{Ordering}
pub use Rattle.std.specs.declared.cmp.Ordering.TheVariants.{Equal, Greater, Less}
