-- The contents of tables, checked by computing all of them.
use Rattle.ipnetwork_addr.proofs.Words.{◌≡◌, ℕ, ◌<◌, ◌==◌, true, List, [], get_or, refl, ap, ◌∙◌, pointwise, agree_below, agree_below_at, eqb-true, Decides-eqb, slice_eq-Decides}

-- an entry of a table
pub entry : (table : List ℕ) (value : ℕ → ℕ) (size : ℕ)
    → agree_below (λ k. get_or table k 0 == value k) (λ _. true) size ≡ true
    → (k at : ℕ) → k < size → at ≡ k → get_or table at 0 ≡ value k
entry table value size all k at below is =
    ap (λ j. get_or table j 0) is
    ∙ eqb-true _ _ (agree_below_at (λ j. get_or table j 0 == value j) (λ _. true) size k all below)

-- a row of a table of rows
pub row : (table : List (List ℕ)) (value : ℕ → List ℕ) (size : ℕ)
    → agree_below (λ k. pointwise ◌==◌ (get_or table k []) (value k)) (λ _. true) size ≡ true
    → (k at : ℕ) → k < size → at ≡ k → get_or table at [] ≡ value k
row table value size all k at below is =
    ap (λ j. get_or table j []) is
    ∙ (slice_eq-Decides Decides-eqb (get_or table k []) (value k) _ refl).0
    (agree_below_at (λ j. pointwise ◌==◌ (get_or table j []) (value j)) (λ _. true) size k all below)
