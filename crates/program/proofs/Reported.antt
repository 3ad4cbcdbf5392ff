-- What is reported, one text after the other.
use Rattle.program.proofs.Words.{◌≡◌, ◌<◌, ◌≤◌, ℕ, zero, suc, Bool, true, false, List, [], ◌∷◌, ◌++◌, refl, sym, subst, arith, length, get_or, IsTrue, IsFalse, String, string_bytes, Written, AppendsBeginning, FailsIn, puts_more, puts_nothing, begins_within, begins_after_puts, Reports, name_at, true≢false, ◌∙◌, append_assoc, Appends-nil}

-- a writer that had failed before has still failed
still_failed : {W : Type 0} (old new : Written W) (text : List ℕ) → Reports old new text → IsTrue old.failed
    → IsTrue new.failed
still_failed {W} old new text h fails = subst (λ (w : Written W). IsTrue w.failed) (sym (h.stays fails)) fails

-- a writer that has not failed had not before
works_before : {W : Type 0} (old new : Written W) (text : List ℕ) → Reports old new text → IsFalse new.failed
    → IsFalse old.failed
works_before old new text h works = by_case old.failed refl where
  by_case : (b : Bool) → old.failed ≡ b → IsFalse old.failed
  by_case false e = e
  by_case true e = absurd (true≢false (sym (still_failed old new text h e) ∙ works))

-- the writer failed at the first text, or at the second
cut_in : {W : Type 0} (old mid new : Written W) (first second : List ℕ)
    → Reports old mid first → Reports mid new second → IsTrue new.failed → (b : Bool) → mid.failed ≡ b
    → FailsIn old new (first ++ second)
cut_in {W} old mid new first second p q fails true e =
    subst (λ (w : Written W). FailsIn old w (first ++ second)) (sym (q.stays e))
    (subst (AppendsBeginning old.holds mid.holds) (append_assoc old.waits first second)
    (begins_within old.holds mid.holds (old.waits ++ first) second (p.cut e)))
cut_in old mid new first second p q fails false e =
    begins_after_puts old.holds mid.holds new.holds old.waits mid.waits first second (p.told e) (q.cut fails)

-- both texts were reported, one after the other
pub tells_more : {W : Type 0} (old mid new : Written W) (first second : List ℕ)
    → Reports old mid first → Reports mid new second → Reports old new (first ++ second)
tells_more old mid new first second p q = record {
  told = λ works. puts_more _ _ _ _ _ _ _ _ (p.told (works_before mid new second q works)) (q.told works);
  cut = λ fails. cut_in old mid new first second p q fails mid.failed refl;
  stays = λ fails. q.stays (still_failed old mid first p fails) ∙ p.stays fails;
}

-- the same, where the facts say which
pub tells_on : {W : Type 0} {old mid new : Written W} {first second : List ℕ} → Reports old mid first
    → Reports mid new second → Reports old new (first ++ second)
tells_on p q = tells_more _ _ _ _ _ p q

pub tells_nothing : {W : Type 0} (old : Written W) → Reports old old []
tells_nothing old = record {
  told = λ works. puts_nothing _ _;
  cut = λ fails. ([], Appends-nil old.holds, (old.waits ++ [], refl));
  stays = λ fails. refl;
}

-- a text by another name
pub tells_same : {W : Type 0} (old new : Written W) (text other : List ℕ) → text ≡ other → Reports old new text
    → Reports old new other
tells_same old new text other e h = subst (λ (t : List ℕ). Reports old new t) e h

-- ---- names of lists

pub name_within : {Z : Type 0} (words : List (String Z)) (place : ℕ) (word : String Z) → place < length words
    → name_at words place ≡ string_bytes (get_or words place word)
name_within [] place word l = absurd (omega arith)
name_within (w ∷ ws) zero word l = refl
name_within (w ∷ ws) (suc place) word l = name_within ws place word (omega arith)

pub name_past : {Z : Type 0} (words : List (String Z)) (place : ℕ) → length words ≤ place → name_at words place ≡ []
name_past [] place l = refl
name_past (w ∷ ws) zero l = absurd (omega arith)
name_past (w ∷ ws) (suc place) l = name_past ws place (omega arith)
