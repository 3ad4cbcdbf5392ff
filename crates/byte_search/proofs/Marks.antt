-- What the marks of a vector say about its bytes.
use Rattle.byte_search.proofs.Words.{◌≡◌, ◌≢◌, ℕ, ◌+◌, ◌-◌, ◌*◌, ◌/◌, ◌^◌, ◌<◌, ◌≤◌, ◌==◌, zero, suc, Bool, true, false, cond, not, List, [], ◌∷◌, length, take, drop, map, sym, ap, ◌∙◌, arith, inl, inr, eqb-true, eqb-false, cases_lt, drop-take, drop-drop, length-chunk, trailing_mask_l, none_from_empty_mask, run_in_chunk_fails, run_in_chunk_stops, prefix_len, IsAbsent, IsNext}
use native.Mathlib.Nat.{pow-suc, mul_comm, div-div-eq-div-mul}
use lib.Lanes.{mask_l}
use lib.Count.{count_trailing_zeros}

-- halving the marks drops the first bit
shifted_out : (bit : Bool) (marks : ℕ) → (cond bit 1 0 + 2 * marks) / 2 ≡ marks
shifted_out true marks = omega arith
shifted_out false marks = omega arith

-- dividing the marks by 2^count gives those of the elements after the first `count`
shifted : (p : ℕ → Bool) (count : ℕ) (xs : List ℕ) → mask_l (map p xs) / 2 ^ count ≡ mask_l (map p (drop count xs))
shifted p zero xs = omega arith
shifted p (suc count) [] = omega arith
shifted p (suc count) (x ∷ xs) =
    let marks = mask_l (map p (x ∷ xs)) in
    ap (λ n. marks / n) (pow-suc 2 count ∙ mul_comm (2 ^ count) 2) ∙ sym (div-div-eq-div-mul marks 2 (2 ^ count))
    ∙ ap (λ n. n / 2 ^ count) (shifted_out (p x) (mask_l (map p xs))) ∙ shifted p count xs

-- if there is a mark, some element passes the test
one_passes : (p : ℕ → Bool) (xs : List ℕ) → 0 < mask_l (map p xs) → prefix_len (λ x. not (p x)) xs < length xs
one_passes p [] marked = absurd (omega arith)
one_passes p (x ∷ xs) marked = first (p x) marked (one_passes p xs)
  where
    first : (bit : Bool) → 0 < cond bit 1 0 + 2 * mask_l (map p xs) → (0 < mask_l (map p xs) → prefix_len
        (λ y. not (p y)) xs < length xs) → cond (not bit) (1 + prefix_len (λ y. not (p y)) xs) 0 < suc (length xs)
    first true some later = omega arith
    first false some later = let below = later (omega arith) in omega arith

-- a byte that occurs neither before nor after a position does not occur at all
pub further : (byte : ℕ) (text : List ℕ) (from middle end : ℕ) → IsAbsent byte text from middle
    → IsAbsent byte text middle end → IsAbsent byte text from end
further byte text from middle end before after position low high = elim (cases_lt position middle) [
  | inl left ↦ before position low left
  | inr right ↦ after position right high
]

-- The marks of the bytes of a text from `at` on, at most as many as a number has bits.
module _ (byte : ℕ) (text : List ℕ) (at count marks : ℕ) (within : at + count ≤ length text) (few : count ≤ 64)
    (marked : marks ≡ mask_l (map (λ x. x == byte) (take count (drop at text)))) where
  pub unmarked : marks ≡ 0 → IsAbsent byte text at (at + count)
  unmarked none position low high =
      eqb-false _ _ (none_from_empty_mask (λ x. x == byte) text at count 0 within (sym marked ∙ none) position low high)

  pub first_marked : marks ≢ 0 → IsNext byte text at (at + count_trailing_zeros 64 marks)
  first_marked some =
      let size : length (take count (drop at text)) ≡ count = length-chunk at count text within in
      let set : 0 < mask_l (map (λ x. x == byte) (take count (drop at text))) = omega (arith, marked, some) in
      let before : count_trailing_zeros 64 marks ≡ prefix_len (λ x. not (x == byte)) (take count (drop at text))
      = ap (count_trailing_zeros 64) marked ∙ trailing_mask_l (λ x. x == byte) 64 (take count (drop at text))
      (omega (arith, size)) set in
      let below : count_trailing_zeros 64 marks < count
      = omega (arith, before, size, one_passes (λ x. x == byte) (take count (drop at text)) set) in
      record {
        behind = omega arith;
        within = omega arith;
        between = λ position low high. eqb-false _ _ (run_in_chunk_fails (λ x. x == byte) text at count
            (count_trailing_zeros 64 marks) 0 within before position low high);
        there = eqb-true _ _ (run_in_chunk_stops (λ x. x == byte) text at count (count_trailing_zeros 64 marks) 0 within
            before below);
      }

-- the marks of a vector that begins before a position, without those of the bytes before the position
pub left_of : (byte : ℕ) (text : List ℕ) (last at lanes marks : ℕ) → last ≤ at → at ≤ last + lanes
    → marks ≡ mask_l (map (λ x. x == byte) (take lanes (drop last text)))
    → marks / 2 ^ (at - last) ≡ mask_l (map (λ x. x == byte) (take (last + lanes - at) (drop at text)))
left_of byte text last at lanes marks low high marked =
    let passed = at - last in
    let all : lanes ≡ passed + (last + lanes - at) = omega arith in
    let on : last + passed ≡ at = omega arith in
    ap (λ n. n / 2 ^ passed) marked ∙ shifted (λ x. x == byte) passed (take lanes (drop last text))
    ∙ ap (λ xs. mask_l (map (λ x. x == byte) xs))
    (ap (λ n. drop passed (take n (drop last text))) all ∙ drop-take passed (last + lanes - at) (drop last text)
    ∙ ap (take (last + lanes - at)) (drop-drop passed last text ∙ ap (λ n. drop n text) on))

-- the next position from `from` on, if the byte does not occur before `middle`
pub onward : (byte : ℕ) (text : List ℕ) (from middle at : ℕ) → from ≤ middle → IsAbsent byte text from middle
    → IsNext byte text middle at → IsNext byte text from at
onward byte text from middle at low none h = record {
  behind = omega (arith, h.behind);
  within = h.within;
  between = further byte text from middle at none h.between;
  there = h.there;
}
