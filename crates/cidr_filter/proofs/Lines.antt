-- How a line is filtered.
use Rattle.cidr_filter.proofs.Words.{◌≡◌, ◌∙◌, ℕ, Bool, List, [], inl, inr, refl, sym, ap, subst, if◌then◌else◌, Some, Result, Ok, Err, OnErr, IfErr, IsOkUnless, IsTrue, true, false, Prints, FailsIn, puts_nothing, IsVerdict, is_refused, head_of, shown_of, IsSelectedByAddress, PrintsAsRead, copied, is_selected, Verdict, Written, StopsLine, TakesLine, LogFault, FiltersLine, judged, shown, tally_with, LineStops, PassesLine, Filter, Tally}
use Rattle.cidr_filter.specs.Filters.{counted}
use Rattle.program.specs.declared.log_fault.LogFault.TheVariants as faults

module _ {W : Type 0} (filter : Filter) (line text : List ℕ) (old : Written W) (was : Tally) (new : Written W) where
  pub passes : (is : Tally) → PassesLine filter line text old was new is
      → TakesLine (FiltersLine filter) line text old was new is
  passes is h = (shown filter was h.0 line text, (h.0, h.1, inr (h.2, refl, ap Some h.4)), h.3)

  pub stops : (fault : LogFault) → LineStops filter line text old was new fault
      → StopsLine (FiltersLine filter) line text old was new fault
  stops faults.Read h = absurd h
  stops faults.Write h = (
    h.0,
    shown filter was h.1 line text,
    tally_with filter was h.1,
    (h.1, h.2, inr (h.3, refl, refl)),
    h.4,
  )
  stops faults.Address h = ((h.0, h.1, inl (h.2, (refl, refl))), h.3)
  stops faults.Length h = ((h.0, h.1, inl (h.2, (refl, refl))), h.3)
  stops faults.Endless h = absurd h

  -- a line that does not end the run, and is not selected, or of which nothing more can be written
  module _ (verdict : Verdict) (judges : IsVerdict filter was.seen.lines line verdict)
      (stays : is_refused filter verdict ≡ false) (selected : Bool) (is : selected ≡ is_selected filter verdict) where
    text_if : (b : Bool) → selected ≡ b → shown filter was verdict line text
        ≡ (if b then shown_of filter (head_of filter (tally_with filter was verdict).seen.lines) verdict
        (judged was.seen.lines line) text else [])
    text_if b e = ap (λ (b : Bool). if b then shown_of filter (head_of filter (tally_with filter was verdict).seen.lines)
        verdict (judged was.seen.lines line) text else []) (sym is ∙ e)

    pub left_out : selected ≡ false → new ≡ old → (now : Tally) → now ≡ counted was verdict selected
        → PassesLine filter line text old was new now
    left_out e same now adds = (
      verdict,
      judges,
      stays,
      subst (λ (w : Written W). Prints old w (shown filter was verdict line text)) (sym same)
          (subst (λ (t : List ℕ). Prints old old t) (sym (text_if false e)) (puts_nothing _ _)),
      adds ∙ ap (λ (b : Bool). counted was verdict b) is,
    )

    pub not_written : selected ≡ true → IsTrue new.failed
        → FailsIn old new (shown_of filter (head_of filter (tally_with filter was verdict).seen.lines) verdict
        (judged was.seen.lines line) text) → LineStops filter line text old was new faults.Write
    not_written e failed fails = (
      failed,
      verdict,
      judges,
      stays,
      subst (λ (t : List ℕ). FailsIn old new t) (sym (text_if true e)) fails,
    )

  -- a line that is copied as it was read is written as it is shown
  copied_is_shown : (verdict : Verdict) (whole : List ℕ) (selected : Bool) → PrintsAsRead filter → text ≡ whole
      → selected ≡ is_selected filter verdict → copied selected whole ≡ shown filter was verdict line text
  copied_is_shown verdict whole selected prints same is =
      ap (λ (b : Bool). copied b whole) is
      ∙ ap (λ (t : List ℕ). if is_selected filter verdict then t else [])
      (sym (prints (tally_with filter was verdict).seen.lines verdict (judged was.seen.lines line) text ∙ same))

  pub copying_stops : {T : Type 0} (result : Result T LogFault) (whole : List ℕ) (selected : Bool) → PrintsAsRead filter
      → text ≡ whole → IsSelectedByAddress filter was.seen.lines line selected
      → OnErr result (FailsIn old new (copied selected whole)) → OnErr result (IsTrue new.failed)
      → IsOkUnless result faults.Write → IfErr result (LineStops filter line text old was new)
  copying_stops (Ok done) whole selected prints same by fails failed fault = tt
  copying_stops (Err e) whole selected prints same by fails failed fault =
      subst (LineStops filter line text old was new) (sym fault) (
        failed,
        by.0,
        by.1,
        by.2,
        subst (λ (t : List ℕ). FailsIn old new t) (copied_is_shown by.0 whole selected prints same by.4) fails,
      )
