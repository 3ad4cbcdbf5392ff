-- The words and the lemmas that answers cite, passed on from one place.
unfoldable pub use Rattle.cidr.proofs.Words.{ends_answer, has_answer, one_word_request, read6_answer, read_answer, request_in, request_of, route_number_of, two_words_request, v6_of}
pub use Rattle.cidr.proofs.Words.{ANSWER_MAX, Add, Filled, IpMember, IsV4Suffix, IsV6Suffix, MayGet, Member, NamesIp, NamesIpNetwork, NamesV4, NamesV4Network, NamesV6, None, Ok, Request, RunSoFar, TellsEnds, [], adding, ap, ap₂, arith, begun, canonical_v4, canonical_v6, codes, cond, device_of, drop, dropping, encode_ascii, ends_text, err_from_is_err_and, finding, has4_answer, has_failed, if◌then◌else◌, inl, ip_network_of, ip_network_text, ip_of, is_ip_member, is_member, length, membership_computed, none_behind, on_err_any, refl, result_ok, routes_of, rules, standing, still_works, subst, sym, take_rest, v4_length_of, v4_network_of, v4_of, v6_length_of, work, ◌*◌, ◌+◌, ◌-◌, ◌∙◌, ◌∷◌, ◌≡◌, ◌≤◌}
pub use Rattle.cidr.proofs.Answers.{adds, gives_none, longer_line, one_word_line, three_word_line, two_word_line}
pub use Rattle.cidr.proofs.AskingParts.{parts_after_routes}
pub use Rattle.cidr.proofs.CommandAnswers.{address_named, answers_membership, answers_network, answers_read, tells_ends}
pub use Rattle.cidr.proofs.CommandLines.{asks, long_lines, unknown_lines}
pub use Rattle.cidr.proofs.CommandRequests.{answers_relation, asks_to_add, asks_to_drop, asks_to_find}
pub use Rattle.cidr.proofs.Computed.{computed_allowed, full_computed, unrefused_computed}
pub use Rattle.cidr.proofs.Concluded.{after_ok, after_read_fault, after_too_long, after_write_fault}
pub use Rattle.cidr.proofs.Cuts.{cut_behind, no_cut}
pub use Rattle.cidr.proofs.EitherAnswers.{same_test, value_from, value_of}
pub use Rattle.cidr.proofs.Keys.{KeyLaws}
pub use Rattle.cidr.proofs.LongLines.{request_long, request_short}
pub use Rattle.cidr.proofs.Membership.{has_ip_members, has_members, relates_sets}
pub use Rattle.cidr.proofs.PlainLines.{asks_nothing, one_output, others_routing}
pub use Rattle.cidr.proofs.Requests.{number_is, number_is_none, plain_reply, replies_as, reply_with}
pub use Rattle.cidr.proofs.RouteLines.{adds_get, drops_get, finds_get, first_add, first_drop, first_find}
pub use Rattle.cidr.proofs.Runs.{after_asking, after_line, after_long, before_asking, begins, fails_at_once, finished, less_to_read, line_failed, long_failed, one_answer, read_failed, writing_failed}
pub use Rattle.cidr.proofs.Splits.{parts_alone, splits}
pub use Rattle.cidr.proofs.Succeeds.{ran_output, ran_succeeds}
pub use Rattle.cidr.proofs.UnrefusedLines.{unrefused_lines}
