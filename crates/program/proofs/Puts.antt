-- Texts that are put, one after the other.
use Rattle.program.proofs.Words.{◌≡◌, ◌∙◌, [], ℕ, Bool, true, false, List, ◌++◌, refl, sym, ap, subst, true≢false, append-nil, append_assoc, Result, Ok, Err, OnErr, is_err, Written, AppendsBeginning, Prints, FailsIn, puts_nothing, puts_more, begins_within, begins_after_puts, PutsOrFails}
use Rattle.std.proofs.Common.{◌||◌}

pub on_err : {T E : Type 0} (result : Result T E) (P : Type 0) → P → OnErr result P
on_err (Ok x) P p = tt
on_err (Err e) P p = p

failed_later : (old mid new later : Bool) → mid ≡ (old || false) → new ≡ (mid || later) → new ≡ (old || later)
failed_later true mid new later e f = f ∙ ap (λ b. b || later) e
failed_later false mid new later e f = f ∙ ap (λ b. b || later) e

pub works_still : (new old : Bool) → new ≡ old → new ≡ (old || false)
works_still new true e = e
works_still new false e = e

pub works_on : (new mid old : Bool) → new ≡ (mid || false) → mid ≡ old → new ≡ old
works_on new true old e f = e ∙ f
works_on new false old e f = e ∙ f

-- ---- two texts

module _ {W T E : Type 0} where
  -- the first was put, and then the second, or not
  pub puts_two : (result : Result T E) (old mid new : Written W) (first second : List ℕ) → Prints old mid first
      → mid.failed ≡ (old.failed || false)
      → PutsOrFails result mid new second → PutsOrFails result old new (first ++ second)
  puts_two (Ok x) old mid new first second p works q = record {
    ok = puts_more _ _ _ _ _ _ first second p q.ok;
    failed = failed_later old.failed mid.failed new.failed false works q.failed;
    beginning = tt;
  }
  puts_two (Err e) old mid new first second p works q = record {
    ok = tt;
    failed = failed_later old.failed mid.failed new.failed true works q.failed;
    beginning = begins_after_puts _ _ _ _ _ first second p q.beginning;
  }

  -- the writer failed at the first
  pub fails_first : (result : Result T E) (old new : Written W) (first second : List ℕ) → is_err result ≡ true
      → new.failed ≡ (old.failed || true)
      → FailsIn old new first → PutsOrFails result old new (first ++ second)
  fails_first (Ok x) old new first second is fails h = absurd (true≢false (sym is))
  fails_first (Err e) old new first second is fails h = record {
    ok = tt;
    failed = fails;
    beginning = subst (λ (t : List ℕ). AppendsBeginning old.holds new.holds t) (append_assoc old.waits first second)
        (begins_within old.holds new.holds (old.waits ++ first) second h);
  }

  -- or at one after some of all
  pub fails_all : (result : Result T E) (old mid new : Written W) (all : List ℕ) → is_err result ≡ true
      → mid.failed ≡ old.failed → new.failed ≡ (mid.failed || true)
      → FailsIn old new all → PutsOrFails result old new all
  fails_all (Ok x) old mid new all is works fails h = absurd (true≢false (sym is))
  fails_all (Err e) old mid new all is works fails h =
      record { ok = tt; failed = fails ∙ ap (λ b. b || true) works; beginning = h }

  -- ---- one by another name

  pub puts_it : (result : Result T E) (old new : Written W) (text other : List ℕ) → text ≡ other
      → PutsOrFails result old new text → PutsOrFails result old new other
  puts_it result old new text other same h = subst (λ (t : List ℕ). PutsOrFails result old new t) same h

  -- nothing
  pub puts_none : (x : T) (old : Written W) (other : List ℕ) → [] ≡ other
      → PutsOrFails {T = T} {E = E} (Ok x) old old other
  puts_none x old other same = puts_it (Ok x) old old [] other same
      (record
      { ok = puts_nothing old.holds old.waits; failed = works_still old.failed old.failed refl; beginning = tt })

-- ---- what is written

-- the writer failed after the text was put
pub begins_written : {W : Type 0} (old mid new : Written W) (text : List ℕ) → Prints old mid text
    → AppendsBeginning mid.holds new.holds mid.waits → FailsIn old new text
begins_written old mid new text prints begins =
    subst (λ (t : List ℕ). AppendsBeginning old.holds new.holds (old.waits ++ t)) (append-nil text)
    (begins_after_puts old.holds mid.holds new.holds old.waits mid.waits text [] prints
    (subst (λ (t : List ℕ). AppendsBeginning mid.holds new.holds t) (sym (append-nil mid.waits)) begins))

pub begins_if_failed : {W T E : Type 0} (result : Result T E) (old mid new : Written W) (text : List ℕ)
    → Prints old mid text → OnErr result (AppendsBeginning mid.holds new.holds mid.waits)
    → OnErr result (FailsIn old new text)
begins_if_failed (Ok x) old mid new text prints begins = tt
begins_if_failed (Err e) old mid new text prints begins = begins_written old mid new text prints begins
