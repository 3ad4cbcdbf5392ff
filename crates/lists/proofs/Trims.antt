-- Comments, and what comes before and after a byte.
use Rattle.lists.proofs.Words.{◌≡◌, ◌==◌, ◌||◌, ◌+◌, ℕ, suc, cond, not, Bool, true, false, List, [], ◌∷◌, length, take, drop, drop_all, arith, sym, ap, ◌∙◌, refl, after_first, before_first, position_or_len, eq-eqb, ne_eqb, take_all, position_or_len_is, IsAbsent, IsNext, begins_comment, before_comment}

-- no byte of this value
pub none_before : (byte : ℕ) (text : List ℕ) → IsAbsent byte text 0 (length text)
    → text ≡ before_first (λ other. other == byte) text
none_before byte text absent =
    let place = position_or_len_is (λ other. other == byte) text (length text) 0 (omega arith)
    (λ k below. ne_eqb _ _ (absent k (omega arith) below)) (λ past. absurd (omega (arith, past))) in
    sym (ap (λ n. take n text) place ∙ take_all (length text) text (omega arith))

-- the first of this value
pub found_before : (byte : ℕ) (text : List ℕ) (at : ℕ) → IsNext byte text 0 at
    → take at text ≡ before_first (λ other. other == byte) text
found_before byte text at next =
    let place = position_or_len_is (λ other. other == byte) text at 0 (omega (arith, next.within))
    (λ k below. ne_eqb _ _ (next.between k (omega arith) below)) (λ within. eq-eqb _ _ next.there) in
    sym (ap (λ n. take n text) place)

pub none_after : (byte : ℕ) (text : List ℕ) → IsAbsent byte text 0 (length text)
    → [] ≡ after_first (λ other. other == byte) text
none_after byte text absent =
    let place = position_or_len_is (λ other. other == byte) text (length text) 0 (omega arith)
    (λ k below. ne_eqb _ _ (absent k (omega arith) below)) (λ past. absurd (omega (arith, past))) in
    sym (ap (λ n. drop (n + 1) text) place ∙ drop_all (length text + 1) text (omega arith))

pub found_after : (byte : ℕ) (text : List ℕ) (at : ℕ) → IsNext byte text 0 at
    → drop (at + 1) text ≡ after_first (λ other. other == byte) text
found_after byte text at next =
    let place = position_or_len_is (λ other. other == byte) text at 0 (omega (arith, next.within))
    (λ k below. ne_eqb _ _ (next.between k (omega arith) below)) (λ within. eq-eqb _ _ next.there) in
    sym (ap (λ n. drop (n + 1) text) place)

ends_here : (p : ℕ → Bool) (x : ℕ) (xs : List ℕ) → p x ≡ true → before_first p (x ∷ xs) ≡ []
ends_here p x xs e = ap (λ v. take (cond (not v) (1 + position_or_len p xs) 0) (x ∷ xs)) e

goes_on : (p : ℕ → Bool) (x : ℕ) (xs : List ℕ) → p x ≡ false → before_first p (x ∷ xs) ≡ x ∷ before_first p xs
goes_on p x xs e =
    let one : 1 + position_or_len p xs ≡ suc (position_or_len p xs) = omega arith in
    ap (λ v. take (cond (not v) (1 + position_or_len p xs) 0) (x ∷ xs)) e ∙ ap (λ n. take n (x ∷ xs)) one

-- before the first of either value
pub before_either : (line : List ℕ)
    → before_first (λ other. other == 59) (before_first (λ other. other == 35) line) ≡ before_comment line
before_either [] = refl
before_either (x ∷ xs) = go (before_either xs) (x == 35) refl (x == 59) refl
  where
    go : before_first (λ other. other == 59) (before_first (λ other. other == 35) xs) ≡ before_comment xs
        → (a : Bool) → (x == 35) ≡ a → (b : Bool) → (x == 59) ≡ b → before_first (λ other. other == 59)
        (before_first (λ other. other == 35) (x ∷ xs)) ≡ before_comment (x ∷ xs)
    go later true hash b other =
        ap (before_first (λ other. other == 59)) (ends_here (λ other. other == 35) x xs hash)
        ∙ sym (ends_here begins_comment x xs (ap (λ v. v || x == 59) hash))
    go later false hash true semicolon =
        ap (before_first (λ other. other == 59)) (goes_on (λ other. other == 35) x xs hash)
        ∙ ends_here (λ other. other == 59) x (before_first (λ other. other == 35) xs) semicolon
        ∙ sym (ends_here begins_comment x xs (ap (λ v. v || x == 59) hash ∙ semicolon))
    go later false hash false semicolon =
        ap (before_first (λ other. other == 59)) (goes_on (λ other. other == 35) x xs hash)
        ∙ goes_on (λ other. other == 59) x (before_first (λ other. other == 35) xs) semicolon
        ∙ ap (λ t. x ∷ t) later
        ∙ sym (goes_on begins_comment x xs (ap (λ v. v || x == 59) hash ∙ semicolon))
