-- The words of this crate and of those below, passed on from one place.
pub use Rattle.lines.proofs.BytesLemmas.{HasNo, HasNo-push, split_at, split_cons, split_none, strip_length}
pub use Rattle.lines.proofs.ReturnedLines.{has_no}
pub use Rattle.lines.proofs.Lines.{newline_cases}
pub use Rattle.lines.proofs.Putting.{begins_after_puts, begins_within, puts_more, puts_nothing, puts_out}
pub use Rattle.lines.proofs.Writes.{still_works}
pub use Rattle.lines.specs.LineBuffers.{Buffered, Gives, HandsOut, HasNoFeed, IsDropped, IsFirstLine, IsPending, Receives, waits, work}
pub use Rattle.lines.specs.LineEnds.{end_bytes}
pub use Rattle.lines.specs.Outputs.{AppendsBeginning, FailsIn, Prints, Puts, Writes, Written}
pub use Rattle.lines.specs.Beginnings.{IsBeginning}
pub use Rattle.lines.specs.Watched.{device_of, has_failed}
pub use Rattle.lines.specs.declared.line_end.LineEnd.{LineEnd}
pub use Rattle.lines.specs.declared.line_end.LineEnd.TheVariants.{EndOfInput, LineFeed, ReturnAndLineFeed}
pub use Rattle.lists.specs.KnownLists.{KnownLists}
pub use Rattle.lists.specs.Lists.{ReadLists, TakesLines, at_list}
pub use Rattle.lists.specs.Private.Readings.{end_of}
pub use Rattle.lists.specs.Reading.{ReadsList, StopsAt, StopsAtText}
pub use Rattle.lists.specs.Refusals.{Refused}
pub use Rattle.lists.specs.declared.named.ReadFault.TheVariants.{Cut, Open, OutOfMemory, Read}
pub use Rattle.lists.specs.declared.opening.OpenFault.{OpenFault}
pub use Rattle.program.specs.Endings.{Ending, EndsPrinting, ending, HasTold, HasWritten, IsSilent, status_of}
pub use Rattle.program.specs.Escapes.{escaped, escaped_behind, escaped_word, hex_digit, kept_at, printed as printed_byte}
pub use Rattle.program.specs.LogFaults.{StopsBy, Wrote}
pub use Rattle.program.specs.LogLines.{IsWhole, LogLine, content, ended, ended_lines, feed_behind, lines_in, log_line, log_lines, printed, unended}
pub use Rattle.program.specs.LogReaders.{AreFirst, ComesNext, GivesNext, HandsFirst, OpenLog, left}
pub use Rattle.program.specs.Logs.{IsAllOf, IsFirstOf}
pub use Rattle.program.specs.Messages.{Reports}
pub use Rattle.program.specs.Putting.{PutsOrFails}
pub use Rattle.program.specs.Reported.{name_at}
pub use Rattle.program.specs.Runs.{EndsRun, text_asked}
pub use Rattle.program.specs.Usage.{fault_of, shown}
pub use Rattle.program.specs.Words.{begins_with, count, is, is_only, without_first}
pub use Rattle.program.specs.declared.log_fault.LogFault.{LogFault}
pub use Rattle.program.specs.declared.log_reader.NextLogLine.TheVariants.{End, Line, TooLong}
pub use Rattle.std.proofs.Common.{Bool, List, [], ap, append-nil, append_assoc, ap₂, arith, codes, cond, drop, false, get_or, inl, inr, length, length-append, length-drop, length-take, not, refl, rules, slice_index, subst, suc, sym, take, true, true≢false, zero, ℕ, ◌%◌, ◌&&◌, ◌*◌, ◌++◌, ◌+◌, ◌-◌, ◌/◌, ◌<◌, ◌==◌, ◌^◌, ◌∙◌, ◌∷◌, ◌≡◌, ◌≤◌, ◌⊎◌}
pub use Rattle.std.proofs.KnownBytes.{Appends-nil, Appends-trans, Consumes-kept, Consumes-nil, Consumes-trans}
pub use Rattle.std.proofs.Math.Nat.{mul_comm}
pub use Rattle.std.proofs.lemmas.Bool.{ne_eqb}
pub use Rattle.std.proofs.lemmas.Bool.Decides.{eqb_tells}
pub use Rattle.std.proofs.lemmas.List.{at_drop_more, nil_from_length, take_all}
pub use Rattle.std.proofs.lemmas.List.Folds.{list_all-append}
pub use Rattle.std.proofs.lemmas.Nat.{mul-add-lt}
pub use Rattle.std.proofs.lemmas.Option.{none-some}
pub use Rattle.std.specs.Io.KnownBytes.{Appends, Consumes, IsAtEnd, Keeps}
pub use Rattle.std.specs.List.{flat_map, list_all, slice_split}
pub use Rattle.std.specs.Prelude.{Err, IsFalse, IsTrue, MatchOption, None, Ok, OnErr, OnOk, Option, Result, Some, String, bytes_eq, if◌then◌else◌, is_err, map, ◌||◌}
pub use Rattle.std.specs.Str.Lines.{lines, strip_carriage_return}
pub use Rattle.std.specs.String.{string_bytes}
