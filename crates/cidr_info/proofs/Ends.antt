-- How a run ends.
use Rattle.cidr_info.proofs.Words.{◌≡◌, ◌||◌, ℕ, Bool, true, false, List, [], append-nil, inl, inr, subst, sym, Result, Ok, Err, OnOk, OnErr, is_err, Written, Prints, FailsIn, AppendsBeginning, begins_after_puts, Ending, HasWritten, status_of, EndsWith, FailsWriting}

pub failed_now : (was now : Bool) → now ≡ (was || true) → now ≡ true
failed_now true now e = e
failed_now false now e = e

-- the writer failed, now or after a text
pub failed_all : {W T E : Type 0} (result : Result T E) (old mid new : Written W) (text : List ℕ)
    → Prints old mid text
    → new.failed ≡ (mid.failed || is_err result) → OnErr result (AppendsBeginning mid.holds new.holds mid.waits)
    → OnErr result (FailsWriting old new text)
failed_all (Ok done) old mid new text p failed h = tt
failed_all (Err fault) old mid new text p failed h = (
  failed_now mid.failed new.failed failed,
  subst (λ (t : List ℕ). FailsIn old new t) (append-nil text)
      (begins_after_puts _ _ _ _ _ text [] p (subst (AppendsBeginning mid.holds new.holds) (sym (append-nil
      mid.waits)) h)),
)

pub ends_with : {W E T F : Type 0} (written : Result T F) (end : Ending W E) (text : List ℕ) (status : ℕ)
    → OnOk written (HasWritten end text) → OnErr written (FailsWriting end.output end.output_after text)
    → end.status ≡ status_of written status → EndsWith text status end
ends_with (Ok done) end text status ok err is = inl (ok, is)
ends_with (Err fault) end text status ok err is = inr (err, is)
