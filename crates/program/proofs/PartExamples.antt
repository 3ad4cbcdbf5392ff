-- What the definitions promise, part by part: a definition without one of these parts would not give it.
use Rattle.program.proofs.Words.{◌≡◌, ℕ, true, List, refl, subst, IsTrue, IsFalse, Option, Some, MatchOption, Ok, Err, if◌then◌else◌, String, Written, Prints, FailsIn, Writes, status_of, Ending, IsSilent, HasTold, HasWritten, EndsPrinting, Reports, text_asked, EndsRun}

-- ---- messages

pub what_is_told : {W : Type 0} (old new : Written W) (text : List ℕ) → Reports old new text → IsFalse new.failed
    → Prints old new text
what_is_told old new text h works = h.told works

pub what_a_failing_writer_took : {W : Type 0} (old new : Written W) (text : List ℕ) → Reports old new text
    → IsTrue new.failed → FailsIn old new text
what_a_failing_writer_took old new text h fails = h.cut fails

pub a_failed_writer_is_not_called : {W : Type 0} (old new : Written W) (text : List ℕ) → Reports old new text
    → IsTrue old.failed → new ≡ old
a_failed_writer_is_not_called old new text h failed = h.stays failed

-- ---- endings

pub the_status_that_is_asked_for : (T E : Type 0) (done : T) → status_of {T = T} {E = E} (Ok done) 3 ≡ 3
the_status_that_is_asked_for T E done = refl

pub the_status_of_a_failed_write : (T E : Type 0) (fault : E) → status_of {T = T} {E = E} (Err fault) 0 ≡ 2
the_status_of_a_failed_write T E fault = refl

pub what_is_silent : {W E : Type 0} (end : Ending W E) → IsSilent end → (end.output_after ≡ end.output)
    × (end.status ≡ 2)
what_is_silent end h = h

pub what_was_told : {W E : Type 0} (end : Ending W E) (text : List ℕ) → HasTold end text
    → Reports end.errors end.errors_after text
what_was_told end text h = h

pub what_was_written : {W E : Type 0} (end : Ending W E) (text : List ℕ) → HasWritten end text
    → Writes end.output end.output_after text
what_was_written end text h = h

pub what_was_printed : {W E : Type 0} (end : Ending W E) (text : List ℕ) → EndsPrinting text end
    → (end.status ≡ (if end.output_after.failed then 2 else 0)) × (end.status ≡ 0 → HasWritten end text)
    × (end.output_after.failed ≡ true → FailsIn end.output end.output_after text)
what_was_printed end text h = h

pub what_a_run_prints : {Z W E : Type 0} (help version text : List ℕ) (words : List (String Z))
    (Otherwise : Type 0)
    (end : Ending W E) → text_asked help version words ≡ Some text → EndsRun help version words Otherwise end
    → EndsPrinting text end
what_a_run_prints help version text words Otherwise end e h =
    subst (λ (asked : Option (List ℕ)). MatchOption asked Otherwise (λ t. EndsPrinting t end)) e h
