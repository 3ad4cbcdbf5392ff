-- The words of this crate and of those below, passed on from one place.
pub use Rattle.ipnetwork.specs.IpNetworks.{IsIpNetwork, Makes, address_of, made_of, prefix_of}
pub use Rattle.ipnetwork.specs.declared.ip_network.IpNetwork.{IpNetwork}
pub use Rattle.ipnetwork.specs.declared.ip_network.IpNetwork.TheVariants.{V4, V6}
pub use Rattle.ipnetwork_addr.specs.Either.{unmapped}
pub use Rattle.ipnetwork_addr.specs.declared.ip.IpAddr.{IpAddr}
pub use Rattle.ipnetwork_family.specs.declared.error.IpNetworkError.{IpNetworkError}
pub use Rattle.lines.proofs.Putting.{begins_after_puts, puts_more, puts_nothing}
pub use Rattle.lines.specs.Outputs.{FailsIn, Prints, Written}
pub use Rattle.lines.specs.declared.line_end.LineEnd.{LineEnd}
pub use Rattle.lists.specs.KnownLists.{KnownLists}
pub use Rattle.log_programs.specs.ByteOrderMarks.{judged}
pub use Rattle.log_programs.specs.InTurn.{GoesOn, InTurn}
pub use Rattle.log_programs.specs.LogReads.{Cuts, OfLine, PrintsLog, PrintsSoFar, Put, ReadsLog, ReadsSoFar, StopsLine, TakesLine, end_of, is_cut}
pub use Rattle.log_programs.specs.LogsInTurn.{EndsLogs, FailsAt, Finishes, LogsSoFar, StopsLog, TakesLog}
pub use Rattle.log_programs.specs.Unmapping.{asked_network, unmapped_by, unmapped_network}
pub use Rattle.program.proofs.LogNames.{known_all, known_first}
pub use Rattle.program.proofs.LogStops.{puts_then_all}
pub use Rattle.program.proofs.WholeLines.{LongBehind, long_stays}
pub use Rattle.program.specs.LogFaults.{StopsBy, Wrote}
pub use Rattle.program.specs.LogLines.{LogLine, content, feed_behind, log_line, log_lines, printed}
pub use Rattle.program.specs.LogReaders.{Breaks, GivesNext, HandsFirst, OpenLog, line_of, whole_of}
pub use Rattle.program.specs.declared.log_fault.LogFault.{LogFault}
pub use Rattle.program.specs.declared.log_reader.NextLogLine.{NextLogLine}
pub use Rattle.program.specs.declared.log_reader.NextLogLine.TheVariants.{End, Line, TooLong}
pub use Rattle.std.proofs.Common.{Bool, List, [], ap, append-nil, append_assoc, arith, drop, drop-cons, false, get_or, inl, inr, length, length-append, map, refl, subst, suc, sym, take, take-append-drop, true, true≢false, ℕ, ◌++◌, ◌+◌, ◌-◌, ◌<◌, ◌∙◌, ◌∷◌, ◌≡◌, ◌≤◌}
pub use Rattle.std.proofs.lemmas.List.{map-append}
pub use Rattle.std.proofs.lemmas.Option.{none-some}
pub use Rattle.std.specs.Io.KnownBytes.{Consumes, IsAtEnd}
pub use Rattle.std.specs.Prelude.{Err, IfErr, IsTrue, None, Ok, Option, Result, Some, String, if◌then◌else◌, nat_le}
pub use Rattle.std.specs.Result.{result_unwrap_or}
pub use Rattle.std.specs.String.{string_bytes}
