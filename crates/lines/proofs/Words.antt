-- The words of this crate and of those below, passed on from one place.
pub use Rattle.byte_search.specs.Bytes.{IsAbsent, IsNext}
pub use Rattle.lines.specs.Buffers.{HasRoom}
pub use Rattle.lines.specs.Faults.{ended_by_read, ended_by_write}
pub use Rattle.lines.specs.LineBuffers.{AreFirst, Buffered, Gives, HandsOut, HasNoFeed, IsDropped, IsFirstLine, IsPending, waits}
pub use Rattle.lines.specs.LineEnds.{end_bytes}
pub use Rattle.lines.specs.Outputs.{AppendsBeginning, Puts}
unfoldable pub use Rattle.lines.specs.Beginnings.{complete_part}
pub use Rattle.lines.specs.Beginnings.{IsBeginning, asked}
pub use Rattle.lines.specs.Private.Cuts.{HasFeed, IsCut}
pub use Rattle.lines.specs.Private.Device.{failed_of, inner_of}
pub use Rattle.lines.specs.Watched.{write_fails}
pub use Rattle.lines.specs.declared.fault.RunFault.{RunFault}
pub use Rattle.lines.specs.declared.fault.RunFault.TheVariants.{InputTooLong, Read, Write}
pub use Rattle.lines.specs.declared.line_buffer.NextLine.TheVariants.{Line, TooLong}
pub use Rattle.lines.specs.declared.line_end.Cut.{Cut}
pub use Rattle.lines.specs.declared.line_end.LineEnd.{LineEnd}
pub use Rattle.lines.specs.declared.line_end.LineEnd.TheVariants.{EndOfInput, LineFeed, ReturnAndLineFeed}
pub use Rattle.std.proofs.Common.{Bool, List, [], ap, append-nil, append_assoc, ap₂, arith, codes, cond, drop, false, get_or, if◌then◌else◌, inl, inr, length, length-append, length-drop, length-take, refl, subst, suc, sym, take, take-append-drop, true, true≢false, zero, ℕ, ◌&&◌, ◌++◌, ◌+◌, ◌-◌, ◌<◌, ◌==◌, ◌||◌, ◌∙◌, ◌∷◌, ◌≡◌, ◌≢◌, ◌≤◌, ◌⊎◌}
pub use Rattle.std.proofs.KnownBytes.{Appends-kept, Appends-nil, Appends-trans}
pub use Rattle.std.proofs.Math.Bool.{or-false, or-true}
pub use Rattle.std.proofs.Math.Dec.{eqb-suc-zero}
pub use Rattle.std.proofs.Math.Seq.{drop-nil, take-add, take-append_seam}
pub use Rattle.std.proofs.lemmas.Bool.{ne_eqb}
pub use Rattle.std.proofs.lemmas.Bool.Decides.{eqb_tells}
pub use Rattle.std.proofs.lemmas.List.{drop-append-le, drop_all, drop_more, get_or-drop, get_or-take, length-take-le, take-append-le, take-take, take_all, take_more, take_rest}
pub use Rattle.std.proofs.lemmas.Slice.{between_is}
pub use Rattle.std.specs.Io.KnownBytes.{Appends}
pub use Rattle.std.specs.List.{concat, copy_within, list_any, onto_first, slice_split}
pub use Rattle.std.specs.Prelude.{Err, None, Ok, OnErr, OnOk, Option, Result, Some, map, slice_index}
pub use Rattle.std.specs.Str.Lines.{lines, lines_of_parts, strip_carriage_return}
