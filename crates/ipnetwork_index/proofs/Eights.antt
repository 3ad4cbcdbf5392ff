-- The marks of eight numbers: those that are not less than another number have one.
use Rattle.ipnetwork_index.proofs.Words.{◌≡◌, ℕ, ◌+◌, ◌-◌, ◌%◌, ◌^◌, ◌<◌, ◌≤◌, ◌∙◌, true, cond, eqb, leb, not, List, length, map, replicate, arith, refl, subst, ap, w16, agree_below_at, eqb-true, leb-true, leb-false, length-map, length-chunk, tops_compared, zip2_splat_left, mask_l-lt, mask_l-mod, first_set_mask_l, run_in_chunk_le, run_in_chunk_fails, run_in_chunk_stops, prefix_len, IsRunOfLess}
use lib.Count.{count_trailing_zeros}
use lib.Lanes.{chunk, mask_l, top, zip2}

-- the marks of a comparison with one number
pub marks_are : (xs : List ℕ) (n y : ℕ) → length xs ≡ n → n ≤ 64
    → mask_l (map (top 15) (zip2 (λ a b. cond (leb a b) (2 ^ 16 - 1) 0) (replicate n y) xs)) % 2 ^ 64
    ≡ mask_l (map (λ x. leb y x) xs)
marks_are xs n y long few =
    ap (λ l. mask_l l % 2 ^ 64)
    (tops_compared w16 leb (replicate n y) xs ∙ zip2_splat_left leb y n xs long)
    ∙ mask_l-mod (map (λ x. leb y x) xs) 64 (omega (arith, length-map xs (λ x. leb y x), long))

-- the place of the first of eight marks, or 8 if there is none, is found with a ninth mark after them
ended : (marks : ℕ) → marks < 256
    → count_trailing_zeros 64 (marks + 256)
    ≡ cond (eqb marks 0) 8 (count_trailing_zeros 64 marks)
unfolding count_trailing_zeros
ended marks few =
    eqb-true _ _ (agree_below_at
    (λ n. eqb (count_trailing_zeros 64 (n + 256)) (cond (eqb n 0) 8 (count_trailing_zeros 64 n)))
    (λ _. true) 256 marks refl few)

module _ (lows : List ℕ) (at low marks : ℕ) (room : at + 8 ≤ length lows)
    (marked : marks ≡ mask_l (map (λ x. leb low x) (chunk at 8 lows))) where
  pub few_marks : marks < 256
  few_marks =
      let ms = map (λ x. leb low x) (chunk at 8 lows) in
      let size : length ms ≡ 8
      = length-map (chunk at 8 lows) (λ x. leb low x) ∙ length-chunk at 8 lows room in
      let few : mask_l ms < 256 = subst (λ (n : ℕ). mask_l ms < 2 ^ n) size (mask_l-lt ms) in
      omega (arith, marked, few)

  pub run_of_less : IsRunOfLess lows at low (count_trailing_zeros 64 (marks + 256))
  run_of_less =
      let r : ℕ = count_trailing_zeros 64 (marks + 256) in
      let size : length (chunk at 8 lows) ≡ 8 = length-chunk at 8 lows room in
      let counted : r ≡ prefix_len (λ x. not (leb low x)) (chunk at 8 lows)
      = ended marks few_marks
      ∙ ap (λ (m : ℕ). cond (eqb m 0) 8 (count_trailing_zeros 64 m)) marked
      ∙ first_set_mask_l (λ x. leb low x) (chunk at 8 lows) 8 size (omega arith) in
      record {
        few = run_in_chunk_le (λ x. leb low x) lows at 8 r 0 room counted;
        before = λ k from to.
            leb-false low _ (run_in_chunk_fails (λ x. leb low x) lows at 8 r 0 room counted k from to);
        next = λ more.
            leb-true low _ (run_in_chunk_stops (λ x. leb low x) lows at 8 r 0 room counted more);
      }
