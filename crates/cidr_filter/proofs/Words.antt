-- The words of this crate and of those below, passed on from one place.
pub use Rattle.cidr_filter.specs.Filters.{Filters, FiltersLine, FirstListed, IsListed, IsVerdict, IsVerdictOfAddresses, NoneListed, TellsBlock, TellsOf, addresses_in, behind_name, fresh, head_of, is_count, is_full, is_listed, is_of, is_of_family, is_printed, is_refused, is_selected, is_silent, mark_of, name_head, number_head, of_family, shown, shown_of, sought_in, tally_with, text_of, texts_of}
pub use Rattle.cidr_filter.specs.Logs.{FiltersLog, FiltersLogs, both, count_line, filter_for, is_enough, label_of, missing, nothing, outcome_of, status_by}
pub use Rattle.cidr_filter.specs.Matcher.{HasAddress, HasBlocksOf, IsIn, IsLongestBlock, IsStored, IsToldBlock, OfForms, address_named, asked, covers_named, has_address, has_form, is_among, is_read_within, is_within, reads_networks}
pub use Rattle.cidr_filter.specs.Options.{entries}
pub use Rattle.cidr_filter.specs.Private.Copying.{HasOnly, IsSelectedByAddress, PrintsAsRead, copied}
pub use Rattle.cidr_filter.specs.Private.Progress.{LineStops, PassesLine}
pub use Rattle.cidr_filter.specs.Private.Reading.{HasBlocks, HasSets, ReadsAll}
pub use Rattle.cidr_filter.specs.Reading.{HoldsRead, ReadsItems, StopsAtItems, question_of, rules_of}
pub use Rattle.cidr_filter.specs.Runs.{DoesRequest, EndsRequest, StopsAtLists, filter_of, is_named, is_stopped_by, most_of, shows_of}
pub use Rattle.cidr_filter.specs.declared.filter.Filter.{Filter}
pub use Rattle.cidr_filter.specs.declared.filter.OutputMode.{OutputMode}
pub use Rattle.cidr_filter.specs.declared.filter.Verdict.{Verdict}
pub use Rattle.cidr_filter.specs.declared.help.TheConstants.{HELP, PROGRAM, VERSION}
pub use Rattle.cidr_filter.specs.declared.log.Reached.{Reached}
pub use Rattle.cidr_filter.specs.declared.log.Tally.{Tally}
pub use Rattle.cidr_filter.specs.declared.logs.Outcome.{Outcome}
pub use Rattle.cidr_filter.specs.declared.matcher.Matcher.{Matcher}
pub use Rattle.cidr_filter.specs.declared.matcher.Matcher.TheVariants.{Addresses, Blocks, Networks}
pub use Rattle.cidr_filter.specs.declared.matcher.Sets.{Sets}
pub use Rattle.cidr_filter.specs.declared.matcher.Tables.{Tables}
pub use Rattle.cidr_filter.specs.declared.reading.Question.{Question}
pub use Rattle.ipnetwork.specs.Computed.IpNetworkText.{ip_network_of}
pub use Rattle.ipnetwork.specs.Computed.IpNetworks.{is_ip_subnet}
pub use Rattle.ipnetwork.specs.IpNetworks.{IpMember, IpSubnet, IsIpNetwork}
pub use Rattle.ipnetwork.specs.declared.ip_network.IpNetwork.{IpNetwork}
pub use Rattle.ipnetwork.specs.declared.ip_network.IpNetwork.TheVariants.{V4, V6}
unfoldable pub use Rattle.ipnetwork_addr.specs.Computed.Ipv6Text.{gap_below, v6_of}
pub use Rattle.ipnetwork_addr.specs.declared.ip.IpAddr.{IpAddr}
pub use Rattle.ipnetwork_blocks.specs.Aggregate.{InUnion, IsAggregate}
pub use Rattle.ipnetwork_blocks.specs.AggregateIpLaws.{IpAggregateHasNetworks, LiesInIpUnion}
pub use Rattle.ipnetwork_family.specs.Computed.Network.{is_member}
pub use Rattle.ipnetwork_family.specs.Laws.{MembershipComputed}
pub use Rattle.ipnetwork_family.specs.Network.{Network, network_cmp}
pub use Rattle.ipnetwork_sets.specs.IpSets.{IsIpAddressSet}
pub use Rattle.line_addresses.proofs.Areas.{after, anywhere, whole}
pub use Rattle.line_addresses.proofs.Picks.{each_is_one}
unfoldable pub use Rattle.line_addresses.specs.Addresses.{address_in, address_of, before_port, begun_by, behind_word}
pub use Rattle.line_addresses.specs.Addresses.{Spelled, spelled}
pub use Rattle.line_addresses.specs.Areas.{each_in, each_of, part_of, picked, picked_in, spelled_in}
pub use Rattle.line_addresses.specs.Fields.{field_of}
pub use Rattle.line_addresses.specs.Found.{IsNextOf, spelled_at}
unfoldable pub use Rattle.line_addresses.specs.Networks.{named_network, network_begun_by, network_in}
pub use Rattle.line_addresses.specs.Networks.{found_of}
pub use Rattle.line_addresses.specs.declared.area.Area.{Area}
pub use Rattle.line_addresses.specs.declared.area.Pick.{Pick}
pub use Rattle.line_addresses.specs.declared.found.Found.{Found}
pub use Rattle.lines.proofs.Putting.{begins_after_puts, begins_within, puts_more, puts_nothing, puts_out}
pub use Rattle.lines.proofs.Writes.{still_works}
pub use Rattle.lines.specs.Outputs.{AppendsBeginning, FailsIn, Prints, Puts, Written}
pub use Rattle.lines.specs.Watched.{device_of, has_failed}
pub use Rattle.lists.specs.KnownLists.{KnownLists}
pub use Rattle.lists.specs.Lists.{ReadLists, nothing_read}
pub use Rattle.lists.specs.Refusals.{Refused, no_refusals}
pub use Rattle.lists.specs.declared.named.ReadFault.{ReadFault}
pub use Rattle.log_programs.proofs.ReturnedLines.{handed_out}
pub use Rattle.log_programs.proofs.InTurn.{full_here}
pub use Rattle.log_programs.proofs.LogPrints.{after_line, after_long, begins, breaks, line_stops, log_ends, log_left, long_stops, unwritten}
pub use Rattle.log_programs.proofs.LogsInTurn.{log_more, log_stops, logs_begin, logs_end, name_next, name_within, then_stopped, log_cut}
pub use Rattle.log_programs.specs.Areas.{area_of}
pub use Rattle.log_programs.specs.ByteOrderMarks.{judged}
pub use Rattle.log_programs.specs.Finding.{found_in}
pub use Rattle.log_programs.specs.LogReads.{PrintsLog, PrintsSoFar, StopsLine, TakesLine, is_cut}
pub use Rattle.log_programs.specs.LogsInTurn.{LogsSoFar, StopsLog, TakesLog}
pub use Rattle.log_programs.specs.Unmapping.{asked_network}
pub use Rattle.log_programs.specs.WithoutAddress.{bad_in}
pub use Rattle.log_programs.specs.declared.without_address.WithoutAddress.{WithoutAddress}
pub use Rattle.options.proofs.Runs.{done, not_done}
pub use Rattle.options.proofs.Tables.{rows_of}
pub use Rattle.options.specs.Faults.{is_read_once}
pub use Rattle.options.specs.Given.{files_of, inputs_of, value_of}
pub use Rattle.options.specs.Items.{free_items, free_mode, word_items}
pub use Rattle.options.specs.declared.items.Item.{Item}
pub use Rattle.options.specs.declared.table.Row.{Row}
pub use Rattle.program.proofs.LogReading.{failed_now}
pub use Rattle.program.proofs.Puts.{fails_all, fails_first, puts_it, puts_none, puts_two, works_still}
pub use Rattle.program.specs.Endings.{Ending, ending}
pub use Rattle.program.specs.LogFaults.{StopsBy}
pub use Rattle.program.specs.LogLines.{LogLine, content, ended, ended_lines, feed_behind, log_lines, printed, unended}
pub use Rattle.program.specs.LogReaders.{left}
pub use Rattle.program.specs.Putting.{PutsOrFails}
pub use Rattle.program.specs.declared.log_fault.LogFault.{LogFault}
pub use Rattle.std.proofs.Common.{Bool, List, [], ap, append-nil, append_assoc, arith, cond, decimal, drop, drop-cons, false, get_or, inl, inr, length, map-id, min, not, refl, rules, subst, suc, sym, take, true, true≢false, ℕ, ◌++◌, ◌+◌, ◌-◌, ◌<◌, ◌==◌, ◌^◌, ◌↔◌, ◌∙◌, ◌∷◌, ◌≡◌, ◌≢◌, ◌≤◌}
pub use Rattle.std.proofs.Math.Bool.{beq}
pub use Rattle.std.proofs.lemmas.Bool.{ne_eqb}
pub use Rattle.std.proofs.lemmas.List.{drop_all}
pub use Rattle.std.proofs.lemmas.List.Elements.{All-append, All-contains, All-contains_itself, All-map}
pub use Rattle.std.proofs.lemmas.List.Folds.{Any-from_list_any, list_any-from_Any}
pub use Rattle.std.proofs.lemmas.Option.{none-some}
pub use Rattle.std.proofs.lemmas.Result.{err_from_is_err_and}
pub use Rattle.std.specs.FinMap.{FinMap}
unfoldable pub use Rattle.std.specs.Fmt.{digits}
pub use Rattle.std.specs.List.{All, Contains}
pub use Rattle.std.specs.Option.{option_to_list}
pub use Rattle.std.specs.Prelude.{Err, IfErr, IfOk, IfSome, IsOkUnless, IsTrue, None, Ok, OnErr, OnOk, Option, Result, Some, bytes_eq, codes, if◌then◌else◌, is_ok, map, option_map, ◌&&◌, ◌||◌, ◌⊎◌}
pub use Rattle.std.specs.String.{string_bytes}
