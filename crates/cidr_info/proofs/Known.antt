-- The words and the lemmas that answers cite, passed on from one place.
unfoldable pub use Rattle.cidr_info.proofs.Words.{digits, info_text, last_line}
pub use Rattle.cidr_info.proofs.Words.{Bool, EndsItems, HELP, IpNetwork, IsNext, Item, List, OnOk, Option, Prints, VERSION, [], answer_text, ap, append-nil, append_assoc, are_right, arith, at_drop_more, count_of, decimal, drop, drop-drop, ending, fails_first, fields, first_behind, flat_map, get_or, if_some, infos_from, infos_text, inl, inr, is_none, length, line_said, lines, lines_last, lines_line, lines_said, networks_in, none_behind, not_asked, outer_of, pow_below, printed, puts_it, puts_more, puts_nothing, puts_two, range_with_len, refl, row_text, rules, split_text, status_of, strip_carriage_return, subst, suc, sym, take, take_rest, value_text, words_said, works_on, works_still, ℕ, ◌&&◌, ◌++◌, ◌+◌, ◌-◌, ◌<◌, ◌==◌, ◌^◌, ◌∙◌, ◌∷◌, ◌≡◌, ◌≤◌}
pub use Rattle.cidr_info.proofs.Ends.{ends_with, failed_all}
pub use Rattle.cidr_info.proofs.Texts.{infos_more, networks_at}
