-- A column of answers.
use Rattle.ipnetwork_index.proofs.Words.{◌≡◌, ◌≢◌, ℕ, ◌+◌, ◌<◌, ◌≤◌, List, length, map, get_or, set, arith, sym, subst, ◌∙◌, ⊎_elim, cases_lt, length-map, length-set, get_or-set_same, get_or-set_other, AreAnsweredUpTo}
use Rattle.ipnetwork_index.proofs.Searching.{read_number}

-- one more answer
answered_more : {A : Type 0} (IsAnswer : ℕ → A → Type 0) (other : A) (addresses : List ℕ)
    (answers : List A) (at : ℕ) (answer : A)
    → AreAnsweredUpTo IsAnswer other addresses answers at → at < length addresses
    → IsAnswer (get_or addresses at 0) answer
    → AreAnsweredUpTo IsAnswer other addresses (set answers at answer) (at + 1)
answered_more IsAnswer other addresses answers at answer h l own =
    let size = h.size in
    record {
      size = length-set answers at answer ∙ size;
      all = λ k m. ⊎_elim
          (λ (early : k < at).
          let ne : k ≢ at = omega arith in
          rw (get_or-set_other answers at k answer other ne) (h.all k early))
          (λ (here : at ≤ k).
          let q : at ≡ k = omega arith in
          subst (λ (j : ℕ).
          IsAnswer (get_or addresses j 0) (get_or (set answers at answer) j other)) q
          (rw (get_or-set_same answers at answer other (omega arith)) own))
          (cases_lt k at);
    }

-- one more answer to a column of addresses
module _ {A X : Type 0} (IsAnswer : ℕ → A → Type 0) (other : A) (f : X → ℕ) (addrs : List X) where
  pub none_answered : (answers : List A) → length answers ≡ length addrs
      → AreAnsweredUpTo IsAnswer other (map f addrs) answers 0
  none_answered answers size =
      record { size = size ∙ sym (length-map addrs f); all = λ k l. absurd (omega arith) }

  pub next_answered : (answers : List A) (at : ℕ) (addr : X) (answer : A)
      → AreAnsweredUpTo IsAnswer other (map f addrs) answers at → at < length addrs
      → addr ≡ get_or addrs at addr → IsAnswer (f addr) answer
      → AreAnsweredUpTo IsAnswer other (map f addrs) (set answers at answer) (at + 1)
  next_answered answers at addr answer h l is own =
      answered_more IsAnswer other (map f addrs) answers at answer h
      (subst (λ (n : ℕ). at < n) (sym (length-map addrs f)) l)
      (subst (λ (x : ℕ). IsAnswer x answer) (sym (read_number f addrs at addr l is)) own)

  pub all_answered : (answers : List A) (at : ℕ)
      → AreAnsweredUpTo IsAnswer other (map f addrs) answers at → at ≡ length addrs
      → AreAnsweredUpTo IsAnswer other (map f addrs) answers (length (map f addrs))
  all_answered answers at h end =
      subst (λ (n : ℕ). AreAnsweredUpTo IsAnswer other (map f addrs) answers n)
      (end ∙ sym (length-map addrs f)) h
