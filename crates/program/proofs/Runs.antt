-- How a run ends, by what the only word asks for.
use Rattle.program.proofs.Words.{◌≡◌, ◌∙◌, List, ℕ, Bool, sym, ap, arith, subst, true≢false, if◌then◌else◌, Result, Ok, Err, OnOk, OnErr, is_err, FailsIn, HasWritten, status_of, Option, None, Some, MatchOption, String, Ending, EndsPrinting, text_asked, EndsRun}

-- a text was written, or the writer failed
pub text_printed : {T F W E : Type 0} (written : Result T F) (text : List ℕ) (end : Ending W E)
    → OnOk written (HasWritten end text) → OnErr written (FailsIn end.output end.output_after text)
    → end.output_after.failed ≡ is_err written → end.status ≡ status_of written 0 → EndsPrinting text end
text_printed (Ok done) text end wrote cut failed status = (
  status ∙ sym (ap (λ (b : Bool). if b then 2 else 0) failed),
  (λ zero. wrote),
  (λ fails. absurd (true≢false (sym fails ∙ failed))),
)
text_printed (Err fault) text end wrote cut failed status = (
  status ∙ sym (ap (λ (b : Bool). if b then 2 else 0) failed),
  (λ zero. absurd (omega (arith, status, zero))),
  (λ fails. cut),
)

module _ {Z W E : Type 0} (help version : List ℕ) (words : List (String Z)) (Otherwise : Type 0)
    (end : Ending W E) where
  abbrev Ends : Option (List ℕ) → Type 0
  Ends asked = MatchOption asked Otherwise (λ text. EndsPrinting text end)

  -- the help or the version was printed
  pub printed : (text : List ℕ) → text_asked help version words ≡ Some text → EndsPrinting text end
      → EndsRun help version words Otherwise end
  printed text e h = subst Ends (sym e) h

  -- neither was asked for
  pub not_asked : text_asked help version words ≡ None → Otherwise → EndsRun help version words Otherwise end
  not_asked e h = subst Ends (sym e) h

  pub otherwise : text_asked help version words ≡ None → EndsRun help version words Otherwise end → Otherwise
  otherwise e h = subst Ends e h
