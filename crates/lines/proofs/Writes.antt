-- What a writer holds after several writes.
use Rattle.lines.proofs.Words.{◌≡◌, ℕ, ◌+◌, ◌-◌, ◌≢◌, Bool, false, ◌||◌, ◌&&◌, ◌==◌, List, ◌++◌, length, take, drop, sym, ap, ◌∙◌, subst, take-append-drop, take_rest, ne_eqb, take-add, or-false, Appends-trans, Appends, Option, AppendsBeginning}

-- one more write, from the rest of these bytes
pub written_more : (b m a : Option (List ℕ)) (at n : ℕ) (bytes : List ℕ) → Appends b m (take at bytes)
    → Appends m a (take n (take (length bytes - at) (drop at bytes))) → Appends b a (take (at + n) bytes)
written_more b m a at n bytes h k =
    subst (Appends b a) (ap (λ l. take at bytes ++ take n l) (take_rest bytes at) ∙ sym (take-add at n bytes))
    (Appends-trans b m a _ _ h k)

pub stopped_at : (b a : Option (List ℕ)) (at : ℕ) (bytes : List ℕ) → Appends b a (take at bytes)
    → AppendsBeginning b a bytes
stopped_at b a at bytes h = (take at bytes, h, (drop at bytes, sym (take-append-drop at bytes)))

-- a write that took some bytes did not fail
pub took_some : (was : Bool) (n : ℕ) (rest : Bool) → n ≢ 0 → (was || ((n == 0) && rest)) ≡ was
took_some was n rest h = ap (λ v. was || (v && rest)) (ne_eqb n 0 h) ∙ or-false was

-- a device that works still works after a call that did not fail
pub still_works : (now was first : Bool) → now ≡ (was || false) → was ≡ first → now ≡ first
still_works now was first call before = call ∙ or-false was ∙ before
