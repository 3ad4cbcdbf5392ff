-- The words of this crate and of those below, passed on from one place.
pub use Rattle.byte_search.specs.Bytes.{IsAbsent, IsNext}
pub use Rattle.ipnetwork_addr.specs.Computed.Either.{ip_of}
pub use Rattle.ipnetwork_addr.specs.Computed.Ipv6Canonical.{canonical_v6}
unfoldable pub use Rattle.ipnetwork_addr.specs.Computed.Ipv6Text.{gap_below, v6_of}
pub use Rattle.ipnetwork_addr.specs.Computed.Reading.{answer_from}
pub use Rattle.ipnetwork_addr.specs.Either.{NamesIp, unmapped}
pub use Rattle.ipnetwork_addr.specs.Ipv4Text.{NamesV4}
pub use Rattle.ipnetwork_addr.specs.Ipv6Text.{NamesV6}
pub use Rattle.ipnetwork_addr.specs.Texts.{Colon, Digit, Dot, IsAddressByte, LowerHex, UpperHex, colon_first}
pub use Rattle.ipnetwork_addr.specs.declared.ip.IpAddr.{IpAddr}
pub use Rattle.ipnetwork_addr.specs.declared.ip.IpAddr.TheVariants.{V4, V6}
unfoldable pub use Rattle.line_addresses.specs.Addresses.{address_in, address_of, before_port, begun_by, behind_word}
pub use Rattle.line_addresses.specs.Addresses.{Spelled, addresses_of, before_digits, before_mark, digits_at_end, ends_with_mark, has_dot, is_address_byte, is_colon, is_mark, is_port, is_word, or_else, spelled, with_text, without_mark}
pub use Rattle.line_addresses.specs.Areas.{IsPicked, each_of, last_of, picked, spelled_in}
pub use Rattle.line_addresses.specs.Fields.{field_of, fields_of}
pub use Rattle.line_addresses.specs.Following.{begins_name, begun_by_address, first_run, following, following_from, is_name_byte, opened, opened_from, opens, value_after}
pub use Rattle.line_addresses.specs.Found.{IsNextOf, StopsARun, spelled_at}
pub use Rattle.line_addresses.specs.Laws.{BeginsNoAddress, EndsNoAddress, NamedAddress}
pub use Rattle.line_addresses.specs.LineRuns.{is_run_byte}
unfoldable pub use Rattle.line_addresses.specs.Networks.{named_network, network_begun_by, network_in}
pub use Rattle.line_addresses.specs.Networks.{address_read, found_of, has_slash, is_slash, is_stretch_byte, network_before_mark, networks_in, networks_of, or_addresses, spelled_network}
pub use Rattle.line_addresses.specs.Numbers.{number_of, ordinal_in}
pub use Rattle.line_addresses.specs.Places.{at_place, place_in, place_text}
pub use Rattle.line_addresses.specs.Private.LastParts.{cuts, is_skipped, parts_of}
pub use Rattle.line_addresses.specs.Private.LineRuns.{IsPartEnd, IsRunEnd, IsStretchEnd, IsWordEnd, Shows}
pub use Rattle.line_addresses.specs.Words.{is_blank, unless_empty, words_of}
pub use Rattle.line_addresses.specs.declared.area.Area.{Area}
pub use Rattle.line_addresses.specs.declared.area.Part.{Part}
pub use Rattle.line_addresses.specs.declared.area.Pick.{Pick}
pub use Rattle.line_addresses.specs.declared.byte_kind.TheConstants.{KINDS}
pub use Rattle.line_addresses.specs.declared.found.Found.{Found}
pub use Rattle.ipnetwork_addr.proofs.Examples.{none_before_the_capitals, none_before_the_dot, none_from_capital_g, none_from_letter_g}
pub use Rattle.lines.proofs.BytesLemmas.{first_behind, none_behind, split_at, split_none, split_text}
pub use Rattle.std.proofs.Common.{Bool, List, None, Option, Some, [], ap, append_assoc, arith, cond, drop, false, get_or, inl, inr, length, length-drop, length-take, lit<, min, not, refl, subst, suc, sym, take, true, true≢false, zero, ℕ, ◌&&◌, ◌++◌, ◌+◌, ◌-◌, ◌<◌, ◌==◌, ◌^◌, ◌↔◌, ◌∙◌, ◌∷◌, ◌≡◌, ◌≢◌, ◌≤◌, ◌⊎◌}
pub use Rattle.std.proofs.Math.Seq.{take-length}
pub use Rattle.std.proofs.lemmas.Bool.{agree_below_at, cases_lt, eq-eqb, eqb-true, ne_eqb}
pub use Rattle.std.proofs.lemmas.Bool.Decides.{nat_tests}
pub use Rattle.std.proofs.lemmas.List.{append-nil, reverse-append, take-append-drop, drop-drop, drop-take, drop_all, drop_more, get_or-drop, get_or-take, take-take, take_rest}
pub use Rattle.std.proofs.lemmas.List.Concat.{flat_map-cons}
pub use Rattle.std.proofs.lemmas.List.Elements.{All-append, All-cons, All-from_get_or, All-nil, filter_map-append}
pub use Rattle.std.proofs.lemmas.List.Folds.{drop_split}
pub use Rattle.std.proofs.lemmas.List.Splits.{length-slice_split, slice_split-cons_yes, slice_split_at, slice_split_none}
pub use Rattle.std.proofs.lemmas.List.Sums.{position_or_len_is}
pub use Rattle.std.specs.Char.{is_ascii_digit}
unfoldable pub use Rattle.std.specs.Fmt.{digits}
pub use Rattle.std.specs.Int.{is_in_range}
pub use Rattle.std.specs.List.{All, AllByRecursion, after_first, cons_option, list_all, list_any, onto_first, position_or_len, range_with_len, slice_range, slice_split}
pub use Rattle.std.specs.Option.{option_to_list}
pub use Rattle.std.specs.Prelude.{Err, IfSome, MatchOption, Ok, bytes_eq, codes, is_some, option_and_then, filter, filter_map, flat_map, if◌then◌else◌, map, nat_le, nat_lt, option_map, reverse, slice_get, slice_index, ◌||◌}
