-- The words of this crate and of those below, passed on from one place.
pub use Rattle.byte_search.specs.Bytes.{IsNext}
pub use Rattle.cidr_info.specs.Fields.{count_of, fields, value_of}
pub use Rattle.cidr_info.specs.Runs.{EndsItems, EndsWith, FailsWriting, answer_text, are_right, outer_of}
unfoldable pub use Rattle.cidr_info.specs.Texts.{info_text}
pub use Rattle.cidr_info.specs.Texts.{infos_from, infos_text, row_text, separator, value_text}
pub use Rattle.cidr_info.specs.Words.{if_some, is_skipped, line_said, lines_said, network_in, networks_in, words_said}
pub use Rattle.cidr_info.specs.Zones.{zone_at, zone_count, zone_of}
pub use Rattle.cidr_info.specs.declared.field.Form.{Form}
pub use Rattle.cidr_info.specs.declared.help.TheConstants.{HELP, VERSION}
pub use Rattle.ipnetwork.specs.declared.ip_network.IpNetwork.{IpNetwork}
pub use Rattle.ipnetwork.specs.declared.ip_network.IpNetwork.TheVariants.{V4, V6}
unfoldable pub use Rattle.ipnetwork_addr.specs.Computed.Ipv6Text.{gap_below, v6_of}
pub use Rattle.lines.proofs.BytesLemmas.{first_behind, none_behind, split_text}
unfoldable pub use Rattle.lines.proofs.Lines.{last_line}
pub use Rattle.lines.proofs.Lines.{lines_last, lines_line}
pub use Rattle.lines.proofs.Putting.{begins_after_puts, puts_more, puts_nothing}
pub use Rattle.lines.specs.Outputs.{AppendsBeginning, FailsIn, Prints, Written}
pub use Rattle.options.specs.declared.items.Item.{Item}
pub use Rattle.program.proofs.Puts.{fails_first, puts_it, puts_two, works_on, works_still}
pub use Rattle.program.proofs.Runs.{not_asked, printed}
pub use Rattle.program.specs.Endings.{Ending, HasWritten, ending, status_of}
pub use Rattle.std.proofs.Common.{Bool, List, [], ap, append-nil, append_assoc, arith, decimal, drop, false, get_or, inl, inr, length, refl, rules, subst, suc, sym, take, true, ℕ, ◌&&◌, ◌++◌, ◌+◌, ◌-◌, ◌<◌, ◌==◌, ◌^◌, ◌||◌, ◌∙◌, ◌∷◌, ◌≡◌, ◌≤◌}
pub use Rattle.std.proofs.lemmas.List.{at_drop_more, drop-drop, take_rest}
pub use Rattle.std.proofs.lemmas.Nat.{pow_below}
unfoldable pub use Rattle.std.specs.Fmt.{digits}
pub use Rattle.std.specs.List.{flat_map, range_with_len}
pub use Rattle.std.specs.Option.{is_none}
pub use Rattle.std.specs.Prelude.{Err, None, Ok, OnErr, OnOk, Option, Result, Some, codes, filter, is_err, map}
pub use Rattle.std.specs.Str.Lines.{lines, strip_carriage_return}
