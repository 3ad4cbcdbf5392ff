-- The turns of a set are the last numbers of its ranges.
use Rattle.ipnetwork_index.proofs.Words.{◌≡◌, ◌↔◌, ℕ, zero, suc, ◌+◌, ◌-◌, ◌^◌, ◌<◌, ◌≤◌, ◌⊎◌, Bool, true, false, not, List, [], ◌∷◌, length, get_or, arith, inl, inr, sym, refl, subst, ◌∙◌, ⊎_elim, true≢false, cases_lt, HasCount, IsTurn, CutInto, IsPartition, LiesAt, is_inside}
use Rattle.ipnetwork_index.proofs.Counting.{has_all_but_last}
use Rattle.ipnetwork_index.proofs.Inside.{is_in, inside_at}
use Rattle.ipnetwork_index.proofs.Answering.{end_fits}

-- ---- each number lies in a range

after_one : (l : ℕ) (ls : List ℕ) (x n : ℕ) → l < x → ((k : ℕ) → k < n → get_or ls k 0 < x)
    → (k : ℕ) → k < n + 1 → get_or (l ∷ ls) k 0 < x
after_one l ls x n a h zero m = a
after_one l ls x n a h (suc k) m = h k (omega arith)

place_or_after : (lasts : List ℕ) (x : ℕ) → ((at : ℕ) × LiesAt lasts x at) ⊎ ((k : ℕ)
    → k < length lasts → get_or lasts k 0 < x)
place_or_after [] x = inr (λ k l. absurd (omega arith))
place_or_after (l ∷ ls) x =
    ⊎_elim
    (λ (a : l < x). ⊎_elim
    (λ (p : (at : ℕ) × LiesAt ls x at).
    let one = p.1.one in
    inl (
      suc p.0,
      record {
        one = omega arith;
        after = λ k m. after_one l ls x p.0 a p.1.after k (omega arith);
        within = p.1.within;
      },
    ))
    (λ (h : (k : ℕ) → k < length ls → get_or ls k 0 < x). inr (λ k m. after_one l ls x (length ls) a
    h k (omega arith)))
    (place_or_after ls x))
    (λ (le : x ≤ l). inl (
      0,
      record {
        one = omega arith;
        after = λ k m. absurd (omega arith);
        within = le;
      },
    ))
    (cases_lt l x)

place : (w : ℕ) (lasts : List ℕ) (x : ℕ) → IsPartition w lasts → x < 2 ^ w → (at : ℕ)
    × LiesAt lasts x at
place w lasts x p small =
    ⊎_elim
    (λ (here : (at : ℕ) × LiesAt lasts x at). here)
    (λ (all : (k : ℕ) → k < length lasts → get_or lasts k 0 < x).
    let some = p.some in
    let j : ℕ = length lasts - 1 in
    let q : get_or lasts j 0 + 1 ≡ 2 ^ w = p.last j (omega arith) in
    let l : get_or lasts j 0 < x = all j (omega arith) in
    absurd (omega arith))
    (place_or_after lasts x)

-- ---- of a range and the next one, exactly one is in the set

next_is_other : (first : Bool) (n : ℕ) → is_in first (suc n) ≡ not (is_in first n)
next_is_other first zero = refl
next_is_other first (suc n) = next_is_other (not first) n

module _ (w : ℕ) (lasts : List ℕ) (first : Bool) (set : ℕ → Type 0) (p : IsPartition w lasts)
    (tells : (x : ℕ) → x < 2 ^ w → (is_inside first lasts x ≡ true) ↔ set x) where
  two_sides : (x : ℕ) (v : Bool) → x + 1 < 2 ^ w → is_inside first lasts x ≡ v
      → is_inside first lasts (x + 1) ≡ not v
      → (set x × ¬ (set (x + 1))) ⊎ (¬ (set x) × set (x + 1))
  two_sides x true small a b =
      inl ((tells x (omega arith)).0 a, λ s. true≢false (sym ((tells (x + 1) small).1 s) ∙ b))
  two_sides x false small a b =
      inr ((λ s. true≢false (sym ((tells x (omega arith)).1 s) ∙ a)), (tells (x + 1) small).0 b)

  turn_at : (k : ℕ) → k + 1 < length lasts → IsTurn w set (get_or lasts k 0)
  turn_at k l =
      let x : ℕ = get_or lasts k 0 in
      let up : x < get_or lasts (k + 1) 0 = p.ascending k (k + 1) (omega arith) l in
      let fits : get_or lasts (k + 1) 0 < 2 ^ w = end_fits w lasts (k + 1) p l in
      let here : LiesAt lasts x k = record {
        one = omega arith;
        after = λ j m. p.ascending j k m (omega arith);
        within = omega arith;
      } in
      let next : LiesAt lasts (x + 1) (suc k) = record {
        one = omega arith;
        after = λ j m. ⊎_elim
            (λ (less : j < k).
            let a : get_or lasts j 0 < x = p.ascending j k less (omega arith) in
            omega arith)
            (λ (ge : k ≤ j).
            let q : k ≡ j = omega arith in
            subst (λ (i : ℕ). get_or lasts i 0 < x + 1) q (omega arith))
            (cases_lt j k);
        within =
            let q : k + 1 ≡ suc k = omega arith in
            subst (λ (i : ℕ). x + 1 ≤ get_or lasts i 0) q (omega arith);
      } in (
        omega arith,
        two_sides x (is_in first k) (omega arith) (inside_at first lasts x k here)
            (inside_at first lasts (x + 1) (suc k) next ∙ next_is_other first k),
      )

  -- there is no turn within a range
  no_turn : (x at : ℕ) → LiesAt lasts x at → LiesAt lasts (x + 1) at → IsTurn w set x → ⊥
  no_turn x at h next t =
      let small : x + 1 < 2 ^ w = t.0 in
      let same : is_inside first lasts x ≡ is_inside first lasts (x + 1)
      = inside_at first lasts x at h ∙ sym (inside_at first lasts (x + 1) at next) in
      ⊎_elim
      (λ (o : set x × ¬ (set (x + 1))). o.1 ((tells (x + 1) small).0 (sym same
      ∙ (tells x (omega arith)).1 o.0)))
      (λ (o : ¬ (set x) × set (x + 1)). o.0 ((tells x (omega arith)).0 (same
      ∙ (tells (x + 1) small).1 o.1)))
      t.1

  last_of_turn : (x : ℕ) → IsTurn w set x → (k : ℕ) × (k + 1 < length lasts)
      × (get_or lasts k 0 ≡ x)
  last_of_turn x t =
      let small : x + 1 < 2 ^ w = t.0 in
      let at = place w lasts x p (omega arith) in
      let one = at.1.one in
      let to : x ≤ get_or lasts at.0 0 = at.1.within in
      let Goal : Type 0 = (k : ℕ) × (k + 1 < length lasts) × (get_or lasts k 0 ≡ x) in
      ⊎_elim
      (λ (less : x < get_or lasts at.0 0).
      let next : LiesAt lasts (x + 1) at.0
      = record {
        one = one;
        after = λ k m.
            let a : get_or lasts k 0 < x = at.1.after k m in
            omega arith;
        within = omega arith;
      } in
      let r : Goal = absurd (no_turn x at.0 at.1 next t) in r)
      (λ (ge : get_or lasts at.0 0 ≤ x).
      ⊎_elim
      (λ (l : at.0 + 1 < length lasts). let r : Goal = (at.0, l, omega arith) in r)
      (λ (g : length lasts ≤ at.0 + 1).
      let q : get_or lasts at.0 0 + 1 ≡ 2 ^ w = p.last at.0 (omega arith) in
      let r : Goal = absurd (omega arith) in r)
      (cases_lt (at.0 + 1) (length lasts)))
      (cases_lt x (get_or lasts at.0 0))

  pub turns_are : HasCount (IsTurn w set) (length lasts - 1)
  turns_are = has_all_but_last (IsTurn w set) w lasts p turn_at last_of_turn

  pub cut_into : CutInto w set (length lasts)
  cut_into = let some = p.some in (length lasts - 1, turns_are, omega arith)
