-- The words and the lemmas that answers cite, passed on from one place.
unfoldable pub use Rattle.line_addresses.proofs.Words.{address_in, address_of, before_port, begun_by, named_network, network_begun_by}
pub use Rattle.line_addresses.proofs.Words.{Err, IfSome, KINDS, MatchOption, None, Ok, Shows, Some, Spelled, address_read, addresses_of, agree_below_at, answer_from, ap, arith, cuts, drop, eqb-true, false, field_of, fields_of, following, found_of, get_or, ip_of, is_address_byte, is_ascii_digit, is_blank, is_run_byte, is_some, is_stretch_byte, length, list_all, min, networks_of, not, number_of, opened, opened_from, parts_of, refl, reverse, slice_get, slice_index, slice_split, subst, sym, take, take_rest, true≢false, words_of, ℕ, ◌+◌, ◌-◌, ◌<◌, ◌==◌, ◌^◌, ◌∙◌, ◌≡◌, ◌≤◌}
pub use Rattle.line_addresses.proofs.AfterWord.{no_colon_behind, no_word_before, word_before}
pub use Rattle.line_addresses.proofs.ByteKinds.{passed, passes}
pub use Rattle.line_addresses.proofs.FirstBytes.{named_by_answer, none_in, none_named}
pub use Rattle.line_addresses.proofs.FirstPositions.{found_at, from_at, inside_name, not_at, nothing_first, nowhere}
pub use Rattle.line_addresses.proofs.LastBytes.{none_ending}
pub use Rattle.line_addresses.proofs.LastParts.{first_part, part_counts, part_skipped, parts_before}
pub use Rattle.line_addresses.proofs.LineParts.{inside}
pub use Rattle.line_addresses.proofs.NextNetworks.{at_stretch, behind_stretch, ends_stretch, no_network, one_network}
pub use Rattle.line_addresses.proofs.NextRuns.{after_run, at_run, behind_byte, no_more}
pub use Rattle.line_addresses.proofs.NextWords.{behind_blank, first_word, later_word, no_words, word_first}
pub use Rattle.line_addresses.proofs.Parts.{no_more_parts, one_part_less, part_from, parts_from}
pub use Rattle.line_addresses.proofs.Picks.{IsLast, Lies, last_picked, next_picked, one_later}
pub use Rattle.line_addresses.proofs.Ports.{counted_from, no_address, no_dot, no_port, one_more, ported, shown_in}
pub use Rattle.line_addresses.proofs.Shown.{at_rest, at_start, begins, begins_behind, begun_by_other, left_marked, left_unmarked, none_at_rest, not_begun, nothing_at_rest, nothing_in, shown_by_nothing, some_from}
pub use Rattle.line_addresses.proofs.SlashRuns.{at_slash_run, slash_passed}
pub use Rattle.line_addresses.proofs.StretchNetworks.{marked, network_begins, network_begins_behind, no_mark, no_network_begins, no_slash, none_without, slash_at, whole}
pub use Rattle.line_addresses.proofs.Unmarked.{none_unmarked}
pub use Rattle.line_addresses.proofs.Values.{all_passed, passed_over, run_first, same_some, stops_here}
