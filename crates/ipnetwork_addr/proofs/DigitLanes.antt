-- The values of the hex digits of a text, in the lanes of vectors.
use Rattle.ipnetwork_addr.proofs.Words.{◌≡◌, ℕ, zero, suc, ◌+◌, ◌-◌, ◌%◌, ◌^◌, ◌<◌, ◌≤◌, ◌==◌, cond, true, inl, inr, List, [], ◌∷◌, length, map, take, drop, get_or, refl, sym, ap, ◌∙◌, subst, arith, replicate, bit_or, ltb, agree_below_at, eqb-true, lt-ltb, cases_lt, get_or-map, get_or-put_chunk_below, get_or-put_chunk_at, get_or-chunk, Each1-get_or, digit_value, AreValuesOf, ShowsValuesUpTo}
use lib.Lanes.{Each1, zip2, sel_l, top, put_chunk}
use mir.Syntax.{w8}
use mir.Val.{Fits}

-- ---- one lane

abbrev minus : ℕ → ℕ → ℕ
minus a b = (a + (2 ^ 8 - b)) % 2 ^ 8

abbrev plus : ℕ → ℕ → ℕ
plus a b = (a + b) % 2 ^ 8

abbrev less : ℕ → ℕ → ℕ
less a b = cond (ltb a b) (2 ^ 8 - 1) 0

abbrev one_value : ℕ → ℕ
one_value byte =
    cond (top 7 (less (minus byte 48) 10)) (minus byte 48)
    (cond (top 7 (less (minus (bit_or byte 32) 97) 6)) (plus (minus (bit_or byte 32) 97) 10) 255)

-- the value of each byte, checked by computing all of them
one_value_is : (byte : ℕ) → byte < 256 → one_value byte < 16 → digit_value byte ≡ one_value byte
one_value_is byte fits small =
    let test : cond (ltb (one_value byte) 16) (digit_value byte == one_value byte) true ≡ true
    = agree_below_at (λ b. cond (ltb (one_value b) 16) (digit_value b == one_value b) true) (λ _. true) 256 byte
    refl fits in
    eqb-true _ _ (sym (ap (λ t. cond t (digit_value byte == one_value byte) true) (lt-ltb (one_value byte) 16 small))
    ∙ test)

-- ---- all lanes

pub lanes_are : (xs : List ℕ) (n : ℕ) → length xs ≡ n
    → sel_l (map (top 7) (zip2 less (zip2 minus xs (replicate n 48)) (replicate n 10))) (zip2 minus xs (replicate n 48))
    (sel_l (map (top 7) (zip2 less (zip2 minus (zip2 bit_or xs (replicate n 32)) (replicate n 97)) (replicate n 6)))
    (zip2 plus (zip2 minus (zip2 bit_or xs (replicate n 32)) (replicate n 97)) (replicate n 10)) (replicate n 255))
    ≡ map one_value xs
lanes_are [] zero e = refl
lanes_are [] (suc n) e = absurd (omega arith)
lanes_are (x ∷ xs) zero e = absurd (omega arith)
lanes_are (x ∷ xs) (suc n) e = ap (λ t. one_value x ∷ t) (lanes_are xs n (omega arith))

pub values_of_lanes : (xs : List ℕ) → length xs ≡ 16 → Each1 (Fits w8) xs → AreValuesOf xs (map one_value xs)
values_of_lanes xs size bytes k low small =
    let same : get_or (map one_value xs) k 0 ≡ one_value (get_or xs k 0) =
    get_or-map one_value xs k 0 0 (omega arith) in
    one_value_is (get_or xs k 0) (Each1-get_or (Fits w8) xs k 0 (omega arith) bytes).fits
    (subst (λ (v : ℕ). v < 16) same small) ∙ sym same

-- ---- sixteen more bytes of a text

pub shows_more : (text old lanes : List ℕ) (at : ℕ) → length lanes ≡ 16 → at + 20 ≤ length old
    → ShowsValuesUpTo at text old
    → AreValuesOf (take 16 (drop at text)) lanes → ShowsValuesUpTo (at + 16) text (put_chunk (at + 4) old lanes)
shows_more text old lanes at size room so_far here k low small = elim (cases_lt k at) [
  | inl left ↦
      let same : get_or (put_chunk (at + 4) old lanes) (k + 4) 0 ≡ get_or old (k + 4) 0 =
      get_or-put_chunk_below (at + 4) old lanes (k + 4) 0 (omega arith) in
      so_far k left (subst (λ (v : ℕ). v < 16) same small) ∙ sym same
  | inr right ↦
      let j : ℕ = k - at in
      let position : at + 4 + j ≡ k + 4 = omega arith in
      let there : at + j ≡ k = omega arith in
      let same : get_or (put_chunk (at + 4) old lanes) (k + 4) 0 ≡ get_or lanes j 0
      = ap (λ p. get_or (put_chunk (at + 4) old lanes) p 0) (sym position)
      ∙ get_or-put_chunk_at (at + 4) old lanes j 0 (omega arith) (omega arith) in
      let byte : get_or (take 16 (drop at text)) j 0 ≡ get_or text k 0
      = get_or-chunk at 16 text j 0 (omega arith) ∙ ap (λ p. get_or text p 0) there in
      ap digit_value (sym byte) ∙ here j (omega arith) (subst (λ (v : ℕ). v < 16) same small) ∙ sym same
]
