-- The words of this crate and of those below, passed on from one place.
pub use Rattle.byte_search.specs.Bytes.{IsNext}
unfoldable pub use Rattle.cidr.specs.Commands.{ends_answer, has_answer, read6_answer, read_answer, rel_answer}
pub use Rattle.cidr.specs.Commands.{ends_text, has4_answer, membership, read4_answer, refused, related, text_or_cause, text_or_refused}
pub use Rattle.cidr.specs.Computed.Output.{answer_of, answers_from, find_answer, next_routes, output_of, request_answer}
pub use Rattle.cidr.specs.Finding.{Finds, found_text, of_family}
pub use Rattle.cidr.specs.Laws.Commands.{AddLaw, AnswersMembership, AnswersNetwork, AnswersRead, AnswersRelation, AsksAdd, AsksDrop, AsksFind, DropLaw, EndsLaw, FindLaw, Has4Law, HasLaw, HasWords, IsAnswered, IsCommand, LongLaw, Read4Law, Read6Law, ReadLaw, RelLaw, TellsEnds, UnknownLaw}
pub use Rattle.cidr.specs.Laws.Outputs.{AskingPartsRunAfterRoutes, ComputedIsAllowed, EndsALine, FullIsComputed, IsAskingLine, IsFullOutput, IsOutputInParts, IsPlainLine, IsUnrefusedOutput, OthersAreRouting, PlainInputsHaveOneOutput, PlainLinesAskNothing, PlainPartsRunAlone, SplitsAtLineEnds, UnrefusedIsComputed, UnrefusedLinesAreComputed}
pub use Rattle.cidr.specs.Laws.Routes.{Absent, AddsGet, AreLeft, Changed, Dropped, DropsGet, FindsGet, FirstAddsNew, FirstDropsNothing, FirstFindsNothing, GetsAdd, GetsDrop, GetsFind, Longest, New, Nothing, OutOfMemory, Renumbers}
pub use Rattle.cidr.specs.Laws.Runs.{AfterOk, AfterReadFault, AfterTooLong, AfterWriteFault}
pub use Rattle.cidr.specs.Laws.Sets.{Has4AnswersMembership, HasAnswersMembership, Relates, RelatesSets}
pub use Rattle.cidr.specs.Output.{Gets, InTurn, IsOutput, IsOutputFrom, MayAnswer, MayGet, RunsOut, added, dropped, out_of_memory, replies, reply}
pub use Rattle.cidr.specs.Private.Progress.{Answered, FailsWithin, FirstMayAnswer, RunSoFar, Standing, begun, standing}
pub use Rattle.cidr.specs.Private.Replies.{Adds, RepliesTo}
pub use Rattle.cidr.specs.Private.Routes.{routes_of}
pub use Rattle.cidr.specs.Private.Words.{IsCut, IsLastWord, IsWordBefore}
unfoldable pub use Rattle.cidr.specs.Requests.{one_word_request, request_in, request_of, route_number_of, two_words_request}
pub use Rattle.cidr.specs.Requests.{Add, Drop, Find, Plain, Request, adding, dropping, finding, too_long, unknown, within_32_bits}
pub use Rattle.cidr.specs.Routes.{Routes, no_routes, number_at, with_number, without}
pub use Rattle.cidr.specs.Run.{BeginsOutput, Ran}
pub use Rattle.cidr.specs.Turns.{FirstInTurn}
pub use Rattle.cidr.specs.Words.{blank, words}
pub use Rattle.cidr.specs.declared.replies.TheConstants.{ANSWER_MAX}
pub use Rattle.ipnetwork.specs.Computed.IpNetworkText.{ip_network_of}
pub use Rattle.ipnetwork.specs.Computed.IpNetworks.{is_ip_member, is_ip_subnet}
pub use Rattle.ipnetwork.specs.IpNetworkText.{NamesIpNetwork, ip_network_text}
pub use Rattle.ipnetwork.specs.IpNetworks.{AreApart, IpMember, IpSubnet, IsIpMask, IsIpNetwork, address_of, ip_high, ip_low, ip_mask_of, ip_members, ip_size, prefix_of, width_of}
pub use Rattle.ipnetwork.specs.Sizes.{size_number}
pub use Rattle.ipnetwork.specs.declared.ip_network.IpNetwork.{IpNetwork}
pub use Rattle.ipnetwork.specs.declared.ip_network.IpNetwork.TheVariants.{V4, V6}
pub use Rattle.ipnetwork_addr.specs.Computed.Either.{ip_of}
pub use Rattle.ipnetwork_addr.specs.Computed.Ipv4Text.{v4_of}
pub use Rattle.ipnetwork_addr.specs.Computed.Ipv6Canonical.{canonical_v6}
unfoldable pub use Rattle.ipnetwork_addr.specs.Computed.Ipv6Text.{gap_below, v6_of}
pub use Rattle.ipnetwork_addr.specs.Computed.Reading.{answer_from}
pub use Rattle.ipnetwork_addr.specs.Either.{IsAddrAtMost, NamesIp, canonical_ip}
pub use Rattle.ipnetwork_addr.specs.Ipv4Text.{NamesV4, canonical_v4}
pub use Rattle.ipnetwork_addr.specs.Ipv6Text.{NamesV6}
pub use Rattle.ipnetwork_addr.specs.declared.ip.IpAddr.{IpAddr}
pub use Rattle.ipnetwork_family.proofs.Blocks.{membership_computed}
pub use Rattle.ipnetwork_family.specs.Computed.Ipv4NetworkText.{v4_length_of, v4_network_of}
pub use Rattle.ipnetwork_family.specs.Computed.Ipv6NetworkText.{v6_length_of}
pub use Rattle.ipnetwork_family.specs.Computed.Network.{is_member}
pub use Rattle.ipnetwork_family.specs.Computed.NetworkText.{network_from, network_of, prefix_given, suffix_of}
pub use Rattle.ipnetwork_family.specs.Computed.PrefixNumber.{prefix_number_of}
pub use Rattle.ipnetwork_family.specs.Ipv4NetworkText.{IsV4Suffix, NamesV4Network}
pub use Rattle.ipnetwork_family.specs.Ipv6NetworkText.{IsV6Suffix, NamesV6Network}
pub use Rattle.ipnetwork_family.specs.Laws.{BlockHasSameSet, SameSet, SuffixIsRefused}
unfoldable pub use Rattle.ipnetwork_family.specs.Network.{count_up}
pub use Rattle.ipnetwork_family.specs.Network.{HostBitsAreZero, IsNetwork, Member, Network, Subnet, block_of, block_size, low, members, network_cmp, size_of}
pub use Rattle.ipnetwork_family.specs.NetworkText.{ReadsNetwork, before_slash, network_text, slashes}
pub use Rattle.ipnetwork_family.specs.PrefixNumber.{IsNoPrefixNumber, IsPrefixNumber}
pub use Rattle.ipnetwork_family.specs.declared.error.CidrFault.{CidrFault}
pub use Rattle.ipnetwork_family.specs.declared.error.CidrFault.TheVariants.{Format, Prefix}
pub use Rattle.ipnetwork_table.specs.Computed.Longest.{longest_of}
pub use Rattle.ipnetwork_table.specs.Laws.{AnswerIsComputed, AnswerIsOne, EmptyHasNoHostBits, InsertAddsNoHostBits, InsertSetsOne, RemoveAddsNoHostBits, RemoveTakesOne}
pub use Rattle.ipnetwork_table.specs.Table.{Answers, HasNoHostBits}
pub use Rattle.lines.proofs.BytesLemmas.{HasNo, IsFirst, first_behind, none_behind, split_at, split_cons, split_none, split_text}
pub use Rattle.lines.proofs.FirstLines.{are_all, first_still, handed}
pub use Rattle.lines.proofs.ReturnedLines.{has_no}
unfoldable pub use Rattle.lines.proofs.Lines.{last_line, pending_from}
pub use Rattle.lines.proofs.Lines.{begins_after, begins_longer, begins_with_nothing, first_are_complete, lines-append, lines_from, lines_split, pending-append}
pub use Rattle.lines.proofs.Putting.{on_err_any, puts_more, puts_nothing, puts_out, puts_waiting}
pub use Rattle.lines.proofs.Writes.{still_works}
pub use Rattle.lines.specs.Buffers.{Filled}
pub use Rattle.lines.specs.Faults.{ended_by_read, ended_by_write}
pub use Rattle.lines.specs.LineBuffers.{AreFirst, Buffered, Gives, HandsOut, IsPending, Receives, work}
pub use Rattle.lines.specs.Outputs.{AppendsBeginning, Puts}
unfoldable pub use Rattle.lines.specs.Beginnings.{complete_part}
pub use Rattle.lines.specs.Beginnings.{IsBeginning}
pub use Rattle.lines.specs.Watched.{device_of, has_failed}
pub use Rattle.lines.specs.declared.fault.RunFault.{RunFault}
pub use Rattle.lines.specs.declared.fault.RunFault.TheVariants.{InputTooLong, Read, Write}
pub use Rattle.lines.specs.declared.line_buffer.NextLine.TheVariants.{Ask, End, Line, TooLong}
pub use Rattle.lines.specs.declared.line_end.LineEnd.{LineEnd}
pub use Rattle.std.proofs.Common.{Bool, IsTrue, List, None, Ok, Option, Some, [], ap, append-nil, append_assoc, ap₂, arith, codes, cond, drop, false, get_or, if◌then◌else◌, inl, inr, is_some, length, length-append, length-drop, length-take, lit<, lit≤, refl, replicate, rules, subst, sym, take, true, true≢false, ℕ, ⊎_elim, ◌*◌, ◌++◌, ◌+◌, ◌-◌, ◌<◌, ◌==◌, ◌^◌, ◌↔◌, ◌∙◌, ◌∷◌, ◌≡◌, ◌≢◌, ◌≤◌}
pub use Rattle.std.proofs.KnownBytes.{Appends-kept, Appends-nil, Appends-trans, Consumes-kept, Consumes-nil, Consumes-trans}
pub use Rattle.std.proofs.Math.Bool.{or-true}
pub use Rattle.std.proofs.Math.Pow.{pow-add, pow_mono}
pub use Rattle.std.proofs.Math.Seq.{drop-append_seam, take-append_seam}
pub use Rattle.std.proofs.lemmas.Bool.{false_from_ne_true, le-leb, le-ltb, lt-ltb}
pub use Rattle.std.proofs.lemmas.Bool.Decides.{eqb_tells, leb_tells}
pub use Rattle.std.proofs.lemmas.Grind.{flat_map-append}
pub use Rattle.std.proofs.lemmas.List.{append_cancel_right, drop-drop, length-map, take_rest}
pub use Rattle.std.proofs.lemmas.List.Elements.{All-contains, All-from_recursion}
pub use Rattle.std.proofs.lemmas.List.FromFn.{length-range_with_len}
pub use Rattle.std.proofs.lemmas.Nat.{pow_pos}
pub use Rattle.std.proofs.lemmas.Option.{none-some}
pub use Rattle.std.proofs.lemmas.Result.{err_from_is_err_and}
pub use Rattle.std.proofs.lemmas.Slice.Eq.{bytes_eq-Decides}
pub use Rattle.std.proofs.lemmas.Str.{encode_ascii}
pub use Rattle.std.specs.FinMap.{FinMap, entries, get, get-empty}
unfoldable pub use Rattle.std.specs.Fmt.{digits}
pub use Rattle.std.specs.Io.KnownBytes.{Appends, Consumes, Keeps}
pub use Rattle.std.specs.List.{All, AllByRecursion, flat_map}
pub use Rattle.std.specs.Prelude.{Contains, Err, IfSome, IsOkUnless, IsSome, OnOk, Result, bytes_eq, decimal, is_ok, nat_le, nat_lt, slice_index_or, ◌||◌, ◌⊎◌}
pub use Rattle.std.specs.Result.{result_ok}
pub use Rattle.std.specs.Str.Lines.{lines}
