-- The words and the lemmas that answers cite, passed on from one place.
pub use Rattle.program.proofs.Words.{Bool, Buffered, ending, HandsFirst, List, LogLine, OpenLog, Option, Prints, Reports, [], ap, append_assoc, ap₂, arith, at_drop_more, codes, count, device_of, drop, escaped, escaped_behind, kept_at, printed_byte, flat_map, get_or, has_failed, hex_digit, if◌then◌else◌, left, length, length-drop, puts_more, refl, rules, still_works, string_bytes, subst, sym, take, take_all, true≢false, ℕ, ◌%◌, ◌++◌, ◌+◌, ◌-◌, ◌/◌, ◌∙◌, ◌∷◌, ◌≡◌, ◌≤◌}
pub use Rattle.program.proofs.LogReading.{begins, by_fields, endless_breaks, failed_now, fails_idle, gives_end, gives_line, gives_long, less_to_read, long_comes, puts_idle, read_breaks, reads_on, some_pending, write_breaks}
pub use Rattle.program.proofs.LogStops.{handed_all, handed_some, stops_else, stops_failed}
pub use Rattle.program.proofs.Puts.{begins_if_failed, fails_first, puts_it, puts_two, works_on, works_still}
pub use Rattle.program.proofs.Reported.{name_past, name_within, tells_on, tells_same}
pub use Rattle.program.proofs.Runs.{text_printed}
