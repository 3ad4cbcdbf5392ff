-- What follows a word and a `:`.
use Rattle.line_addresses.proofs.Words.{◌≡◌, ℕ, ◌+◌, Bool, true, false, cond, List, [], length, take, drop, refl, sym, ap, ◌∙◌, arith, drop_all, eq-eqb, ne_eqb, position_or_len, position_or_len_is, IsAbsent, IsNext, behind_word, is_colon, is_word}

-- ---- the index of the first colon

position : (text : List ℕ) (colon : ℕ) → IsNext 58 text 0 colon → position_or_len is_colon text ≡ colon
position text colon next =
    position_or_len_is is_colon text colon 0 (omega (arith, next.within))
    (λ k below. ne_eqb _ _ (next.between k (omega arith) below)) (λ below. eq-eqb _ _ next.there)

no_position : (text : List ℕ) → IsAbsent 58 text 0 (length text) → position_or_len is_colon text ≡ length text
no_position text absent =
    position_or_len_is is_colon text (length text) 0 (omega arith)
    (λ k below. ne_eqb _ _ (absent k (omega arith) below)) (λ below. absurd (omega arith))

-- what follows a word, if the first colon is at this index
abbrev at_position : List ℕ → ℕ → List ℕ
at_position text colon = cond (is_word (take colon text)) (drop (colon + 1) text) []

by_position : (text : List ℕ) (colon : ℕ) → position_or_len is_colon text ≡ colon
    → behind_word text ≡ at_position text colon
unfolding behind_word
by_position text colon is = ap (at_position text) is

module _ (text : List ℕ) (colon : ℕ) (next : IsNext 58 text 0 colon) where
  pub word_before : is_word (take colon text) ≡ true → drop (colon + 1) text ≡ behind_word text
  word_before is = sym (by_position text colon (position text colon next)
      ∙ ap (λ b. cond b (drop (colon + 1) text) []) is)

  pub no_word_before : is_word (take colon text) ≡ false → drop (length text) text ≡ behind_word text
  no_word_before none = drop_all (length text) text (omega arith) ∙ sym (by_position text colon
      (position text colon next) ∙ ap (λ b. cond b (drop (colon + 1) text) []) none)

pub no_colon_behind : (text : List ℕ) → IsAbsent 58 text 0 (length text) → drop (length text) text ≡ behind_word text
no_colon_behind text absent =
    drop_all (length text) text (omega arith) ∙ sym (by_position text (length text) (no_position text absent)
    ∙ same (is_word (take (length text) text)))
  where
    same : (b : Bool) → cond b (drop (length text + 1) text) [] ≡ []
    same true = drop_all (length text + 1) text (omega arith)
    same false = refl
