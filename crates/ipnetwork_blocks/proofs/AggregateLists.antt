-- Facts about all pairs of a list.
use Rattle.ipnetwork_blocks.proofs.Words.{◌≡◌, ℕ, ◌<◌, ◌⊎◌, inl, inr, sym, ap, subst, ◌∙◌, arith, ⊎_elim, List, length, get_or, take, AllPairs, Contains, cases_order, get_or_default, get_or-take, length-take}

pub pairs_contains : {X : Type 0} (R : X → X → Type 0) (xs : List X) (a b : X) → AllPairs R xs → Contains xs a
    → Contains xs b → (a ≡ b) ⊎ (R a b ⊎ R b a)
pairs_contains {X} R xs a b h c d =
    let at : (i j : ℕ) (x y : X) → i < j → i < length xs → j < length xs → get_or xs i x ≡ x
    → get_or xs j y ≡ y → R x y =
    λ i j x y l li lj ei ej. subst (λ (u : X). R u y) ei
    (subst (λ (v : X). R (get_or xs i x) v) (get_or_default xs j x y lj ∙ ej) (h i j x l lj)) in
    ⊎_elim
    (λ (e : c.0 ≡ d.0). inl (sym c.2 ∙ get_or_default xs c.0 a b c.1 ∙ ap (λ k. get_or xs k b) e ∙ d.2))
    (λ (o : (c.0 < d.0) ⊎ (d.0 < c.0)). ⊎_elim
    (λ (l : c.0 < d.0). inr (inl (at c.0 d.0 a b l c.1 d.1 c.2 d.2)))
    (λ (l : d.0 < c.0). inr (inr (at d.0 c.0 b a l d.1 c.1 d.2 c.2))) o)
    (cases_order c.0 d.0)

pub pairs_take : {X : Type 0} (R : X → X → Type 0) (xs : List X) (k : ℕ) → AllPairs R xs → AllPairs R (take k xs)
pairs_take {X} R xs k h i j d l m =
    let n = length-take k xs in
    let li : i < k = omega arith in
    let lj : j < k = omega arith in
    subst (λ (u : X). R u (get_or (take k xs) j d)) (sym (get_or-take k xs i d li))
    (subst (λ (v : X). R (get_or xs i d) v) (sym (get_or-take k xs j d lj)) (h i j d l (omega arith)))
