-- What the range of a number says about a set.
use Rattle.ipnetwork_index.proofs.Words.{◌≡◌, ◌↔◌, ℕ, zero, suc, ◌%◌, ◌^◌, ◌<◌, ◌≤◌, ◌⊎◌, Bool, true, false, cond, List, [], ◌∷◌, arith, inl, inr, sym, refl, ap, ◌∙◌, subst, ⊎_elim, true≢false, ◌≢◌, beq, cases_lt, le-leb, lt-leb, eqb_tells, InUnion, IsLeastList, IsShortest, is_shortest, least_blocks, least_blocks_of, LiesAt, is_inside}
use Rattle.std.proofs.Math.Bool.{not}
use lib.Dec.{eqb}

-- ---- the test by the last numbers of the ranges

pub inside_within : (first : Bool) (last : ℕ) (lasts : List ℕ) (x : ℕ) → x ≤ last
    → is_inside first (last ∷ lasts) x ≡ first
inside_within first last lasts x l = ap (λ t. cond t first (is_inside (not first) lasts x))
    (le-leb x last l)

pub inside_after : (first : Bool) (last : ℕ) (lasts : List ℕ) (x : ℕ) → last < x
    → is_inside first (last ∷ lasts) x ≡ is_inside (not first) lasts x
inside_after first last lasts x l = ap (λ t. cond t first (is_inside (not first) lasts x))
    (lt-leb x last l)

-- ---- the test by the place of the range

-- whether the range at this place is in the set
abbrev pub is_in : Bool → ℕ → Bool
is_in first zero = first
is_in first (suc n) = is_in (not first) n

place_after : (last : ℕ) (lasts : List ℕ) (x at : ℕ) → LiesAt (last ∷ lasts) x (suc at)
    → LiesAt lasts x at
place_after last lasts x at h =
    let one = h.one in record {
      one = omega arith;
      after = λ k l. h.after (suc k) (omega arith);
      within = h.within;
    }

pub inside_at : (first : Bool) (lasts : List ℕ) (x at : ℕ) → LiesAt lasts x at
    → is_inside first lasts x ≡ is_in first at
inside_at first [] x at h = let one = h.one in absurd (omega arith)
inside_at first (last ∷ lasts) x zero h = inside_within first last lasts x h.within
inside_at first (last ∷ lasts) x (suc at) h =
    let after : last < x = h.after 0 (omega arith) in
    inside_after first last lasts x after
    ∙ inside_at (not first) lasts x at (place_after last lasts x at h)

-- if the first range is in the set, so are those at even places, and otherwise those at odd places
both_in : (n : ℕ) → ((is_in true n ≡ true) ↔ (n % 2 ≡ 0)) × ((is_in false n ≡ true) ↔ (n % 2 ≡ 1))
both_in zero = (
  ((λ _. refl), (λ _. refl)),
  (
    (λ f. absurd (true≢false (sym f))),
    (λ e. absurd (omega arith)),
  ),
)
both_in (suc n) =
    let h = both_in n in (
      ((λ t. let q : n % 2 ≡ 1 = h.1.0 t in omega arith), (λ e. h.1.1 (omega arith))),
      ((λ t. let q : n % 2 ≡ 0 = h.0.0 t in omega arith), (λ e. h.0.1 (omega arith))),
    )

odd_or_not : (first : Bool) (n : ℕ)
    → (not (beq (eqb (n % 2) 1) first) ≡ true) ↔ (is_in first n ≡ true)
odd_or_not true n =
    let h = (both_in n).0 in
    ⊎_elim
    (λ (y : (eqb (n % 2) 1 ≡ true) × (n % 2 ≡ 1)). subst (λ (v : Bool). (not (beq v true) ≡ true) ↔
    (is_in true n ≡ true)) (sym y.0) (
      (λ f. absurd (true≢false (sym f))),
      (λ t.
          let one : n % 2 ≡ 1 = y.1 in let z : n % 2 ≡ 0 = h.0 t in
          absurd (omega arith)),
    ))
    (λ (y : (eqb (n % 2) 1 ≡ false) × (n % 2 ≢ 1)). subst (λ (v : Bool). (not (beq v true) ≡ true) ↔
    (is_in true n ≡ true)) (sym y.0)
    ((λ _. let ne : n % 2 ≢ 1 = y.1 in h.1 (omega arith)), (λ _. refl)))
    (eqb_tells (n % 2) 1)
odd_or_not false n =
    let h = (both_in n).1 in
    ⊎_elim
    (λ (y : (eqb (n % 2) 1 ≡ true) × (n % 2 ≡ 1)). subst (λ (v : Bool). (not (beq v false) ≡ true) ↔
    (is_in false n ≡ true)) (sym y.0)
    ((λ _. h.1 y.1), (λ _. refl)))
    (λ (y : (eqb (n % 2) 1 ≡ false) × (n % 2 ≢ 1)). subst (λ (v : Bool). (not (beq v false) ≡ true)
    ↔ (is_in false n ≡ true)) (sym y.0)
    ((λ f. absurd (true≢false (sym f))), (λ t. absurd (y.1 (h.0 t)))))
    (eqb_tells (n % 2) 1)

-- ---- the blocks of the numbers that pass a test

abbrev Passes : ℕ → (ℕ → Bool) → ℕ → Type 0
Passes w test x = (x < 2 ^ w) × (test x ≡ true)

passes_or_not : (w : ℕ) (test : ℕ → Bool) (x : ℕ) → Passes w test x ⊎ ((Passes w test x) → ⊥)
passes_or_not w test x =
    ⊎_elim
    (λ (l : x < 2 ^ w). by_value (test x) l)
    (λ (le : 2 ^ w ≤ x). inr (λ p. let l : x < 2 ^ w = p.0 in omega arith))
    (cases_lt x (2 ^ w))
  where
    by_value : (b : Bool) → x < 2 ^ w
        → ((x < 2 ^ w) × (b ≡ true)) ⊎ (((x < 2 ^ w) × (b ≡ true)) → ⊥)
    by_value true l = inl (l, refl)
    by_value false l = inr (λ p. true≢false (sym p.1))

pub blocks_tell : (w : ℕ) (test : ℕ → Bool) (x : ℕ) → x < 2 ^ w
    → (test x ≡ true) ↔ InUnion w (least_blocks w test) x
blocks_tell w test x small =
    let least : IsLeastList w (Passes w test) (least_blocks w test)
    = least_blocks_of w test (Passes w test) (λ y p. p.0) (λ y l. ((λ t. (l, t)), (λ p. p.1))) in
    let short : IsShortest w (Passes w test) (least_blocks w test)
    = is_shortest w (Passes w test) (least_blocks w test) (passes_or_not w test) (λ y p. p.0)
    least in
    ((λ t. (short.addresses x).1 (small, t)), (λ u. ((short.addresses x).0 u).1))

-- the place of an address determines whether it is in the set
pub place_tells : (w : ℕ) (first : Bool) (lasts : List ℕ) (x at : ℕ) → x < 2 ^ w → LiesAt lasts x at
    → (not (beq (eqb (at % 2) 1) first) ≡ true) ↔ InUnion w (least_blocks w (is_inside first lasts))
    x
place_tells w first lasts x at small h =
    let f = odd_or_not first at in
    let e : is_inside first lasts x ≡ is_in first at = inside_at first lasts x at h in
    let b = blocks_tell w (is_inside first lasts) x small in
    ((λ v. b.0 (e ∙ f.0 v)), (λ u. f.1 (sym e ∙ b.1 u)))
