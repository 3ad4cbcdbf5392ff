-- The words of a line, one after the other.
use Rattle.line_addresses.proofs.Words.{◌≡◌, ℕ, suc, ◌+◌, ◌-◌, ◌<◌, ◌≤◌, true, List, [], ◌∷◌, length, length-take, length-drop, drop, Some, refl, ap, subst, ◌∙◌, arith, filter_map, slice_get, slice_index, cons_option, slice_range, IsWordEnd, is_blank, unless_empty, words_of}
use Rattle.line_addresses.proofs.LineParts.{Gathers, filters, part_at, cut_at, at_end}

kept : (word : List ℕ) → 0 < length word → unless_empty word ≡ Some word
kept [] some = absurd (omega (arith, some))
kept (byte ∷ word) some = refl

one_less : {X : Type 0} (count : ℕ) (word : X) (words : List X) → 0 < count
    → slice_get (word ∷ words) count ≡ slice_get words (count - 1)
one_less count word words some =
    let more : count ≡ suc (count - 1) = omega (arith, some) in
    ap (λ n. slice_get (word ∷ words) n) more

in_words : Gathers (filter_map unless_empty) (λ part others. cons_option (unless_empty part) others)
in_words = filters unless_empty refl

module _ (line : List ℕ) (at : ℕ) where
  pub behind_blank : (end : ℕ) → at < length line → IsWordEnd line at end → end ≡ at
      → words_of (drop at line) ≡ words_of (drop (at + 1) line)
  behind_blank end below is here =
      let stops : is_blank (slice_index line at) ≡ true = subst (λ (n : ℕ). is_blank (slice_index line n) ≡ true) here
      (is.stops (omega (arith, below, here))) in
      cut_at in_words is_blank line at below stops

  pub word_first : (end : ℕ) → IsWordEnd line at end → ¬ (end ≡ at) → words_of (drop at line) ≡ slice_range line at end
      ∷ words_of (drop end line)
  word_first end is some =
      let size : 0 < length (slice_range line at end) =
      omega (arith, length-take (end - at) (drop at line), length-drop at line, is.behind, is.within, some) in
      part_at in_words is_blank line at end is
      ∙ ap (λ o. cons_option o (words_of (drop end line))) (kept (slice_range line at end) size)

  pub no_words : length line ≤ at → words_of (drop at line) ≡ []
  no_words past = at_end in_words is_blank line at past

pub first_word : {X : Type 0} (word : X) (words all : List X) (count : ℕ) → count ≡ 0 → all ≡ word ∷ words
    → slice_get all count ≡ Some word
first_word word words all count none e = ap (slice_get all) none ∙ ap (λ l. slice_get l 0) e

pub later_word : {X : Type 0} (word : X) (words all : List X) (count : ℕ) → 0 < count → all ≡ word ∷ words
    → slice_get all count ≡ slice_get words (count - 1)
later_word word words all count some e = ap (λ l. slice_get l count) e ∙ one_less count word words some
