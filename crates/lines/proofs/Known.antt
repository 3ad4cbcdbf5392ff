-- The words and the lemmas that answers cite, passed on from one place.

pub use Rattle.lines.proofs.Words.{Appends, Appends-kept, AppendsBeginning, HasNoFeed, IsCut, IsPending, OnErr, OnOk, Puts, ap, arith, drop, drop-nil, failed_of, inl, inner_of, inr, length, length-drop, length-take, length-take-le, refl, subst, sym, take, waits, ◌++◌, ◌+◌, ◌-◌, ◌<◌, ◌∙◌, ◌≡◌, ◌≤◌}
pub use Rattle.lines.proofs.ReturnedLines.{absent_behind, all_dropped, ends_line, ends_too_long, holds_more, holds_still, kept_front, waits_line, waits_more, waits_still, waits_too_long}
pub use Rattle.lines.proofs.Putting.{begins_behind_err, begins_within, on_err_any, put_behind_ok, put_directly_ok}
pub use Rattle.lines.proofs.Writes.{stopped_at, took_some, written_more}
