-- How a run ends that prints findings.
use Rattle.cidr_merge.proofs.Words.{◌≡◌, ◌||◌, ◌∙◌, ℕ, Bool, true, false, not, List, [], ◌∷◌, ◌++◌, refl, sym, ap, subst, inl, inr, length, if◌then◌else◌, Option, Result, Ok, Err, OnOk, IsFalse, is_err, concat, Appends, Appends-trans, eqb-suc-zero, Written, Puts, RunFault, status_of, Reports, IsFound, findings_status, EndsWriting, AppendsBeginning, FailsIn, OnErr, IsTrue, begins_written}

pub status_is : (findings : List (List ℕ)) (found : Bool) → IsFound findings found
    → (if found then 1 else 0) ≡ findings_status findings
status_is [] found e = ap (λ (b : Bool). if b then 1 else 0) e
status_is (one ∷ findings) found e =
    let some = eqb-suc-zero (length findings) in
    ap (λ (b : Bool). if b then 1 else 0) (e ∙ ap not some)
    ∙ sym (ap (λ (b : Bool). if b then 0 else 1) some)

works_before : (mid after : Bool) → after ≡ (mid || false) → IsFalse after → IsFalse mid
works_before false after e works = refl
works_before true after e works = sym e ∙ works

pub fails_now : (mid after : Bool) → after ≡ (mid || true) → after ≡ true
fails_now false after e = e
fails_now true after e = e

pub written_all : (held mid holds : Option (List ℕ)) (waited waits text : List ℕ)
    → Puts held waited mid waits text → Appends mid holds waits
    → Appends held holds (waited ++ text)
written_all held mid holds waited waits text p h =
    subst (λ (t : List ℕ). Appends held holds t) (sym p.2)
    (Appends-trans held mid holds p.0 waits p.1 h)

-- the writer failed while the text was reported, or after that
begins_told : {W : Type 0} (old mid new : Written W) (text : List ℕ) → Reports old mid text
    → AppendsBeginning mid.holds new.holds mid.waits → (IsTrue mid.failed → new ≡ mid) → (failed : Bool)
    → mid.failed ≡ failed → FailsIn old new text
begins_told {W = W} old mid new text tells begins stays true e =
    subst (λ (w : Written W). FailsIn old w text) (sym (stays e)) (tells.cut e)
begins_told old mid new text tells begins stays false e = begins_written old mid new text (tells.told e) begins

-- the findings were written, or the writer failed and took a beginning of them
pub all_written : {W T : Type 0} (findings : List (List ℕ)) (old mid new : Written W) (written : Result T RunFault)
    (status wanted result : ℕ) → Reports old mid (concat findings) → status ≡ wanted
    → OnOk written (Appends mid.holds new.holds mid.waits)
    → OnErr written (AppendsBeginning mid.holds new.holds mid.waits) → OnOk written (IsFalse new.failed)
    → new.failed ≡ (mid.failed || is_err written) → (IsTrue mid.failed → new ≡ mid)
    → result ≡ status_of written status → EndsWriting old new result (concat findings) wanted
all_written findings old mid new (Ok done) status wanted result tells s wrote begins works failed
    stays is =
    let prints = tells.told (works_before mid.failed new.failed failed works) in
    inl (written_all old.holds mid.holds new.holds old.waits mid.waits (concat findings) prints wrote, is ∙ s)
all_written findings old mid new (Err fault) status wanted result tells s wrote begins works failed
    stays is =
    inr (
      fails_now mid.failed new.failed failed,
      begins_told old mid new (concat findings) tells begins stays mid.failed refl,
      is,
    )
