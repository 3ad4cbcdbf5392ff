-- How many ranges the blocks of a table cut the numbers of w bits into.
use Rattle.ipnetwork_index.proofs.Words.{◌≡◌, ◌≢◌, ℕ, ◌+◌, ◌-◌, ◌^◌, ◌<◌, List, length, get_or, arith, sym, subst, ◌∙◌, ⊎_elim, Contains, FinMap, cases_eq, get_or_default, low, high, network_cmp, HasCount, IsEdge, CutByBlocks, CutsOut}
use Rattle.ipnetwork_index.proofs.Counting.{has_all_but_last}

module _ {V : Type 0} (w : ℕ) (t : FinMap network_cmp V) (lasts : List ℕ) (c : CutsOut w t lasts)
  where
    -- the last numbers except the greatest are the edges
    edge_at : (k : ℕ) → k + 1 < length lasts → IsEdge w t (get_or lasts k 0)
    edge_at k l =
        let p = c.partition in
        let j : ℕ = length lasts - 1 in
        let q : get_or lasts j 0 + 1 ≡ 2 ^ w = p.last j (omega arith) in
        let a : get_or lasts k 0 < get_or lasts j 0 = p.ascending k j (omega arith) (omega arith) in
        let small : get_or lasts k 0 + 1 < 2 ^ w = omega arith in
        (small, c.only (get_or lasts k 0) (k, omega arith, get_or_same k (omega arith)) small)
      where
        get_or_same : (k : ℕ) → k < length lasts
            → get_or lasts k (get_or lasts k 0) ≡ get_or lasts k 0
        get_or_same k l = get_or_default lasts k (get_or lasts k 0) 0 l

    place_of_edge : (x : ℕ) → IsEdge w t x → Contains lasts x
    place_of_edge x e =
        let n = e.1 in
        let cut = c.blocks n.0 n.1 in
        ⊎_elim
        (λ (h : high w n.0 ≡ x). subst (λ (y : ℕ). Contains lasts y) h cut.end)
        (λ (l : low w n.0 ≡ x + 1). cut.start x (sym l))
        n.2

    edge_last : (x : ℕ) → IsEdge w t x → (k : ℕ) × (k + 1 < length lasts) × (get_or lasts k 0 ≡ x)
    edge_last x e =
        let k = place_of_edge x e in
        let l = k.1 in
        let small : x + 1 < 2 ^ w = e.0 in
        let is : get_or lasts k.0 0 ≡ x = get_or_default lasts k.0 0 x l ∙ k.2 in
        let inner : k.0 + 1 < length lasts = ⊎_elim
        (λ (here : k.0 + 1 ≡ length lasts).
        let q : get_or lasts k.0 0 + 1 ≡ 2 ^ w = c.partition.last k.0 here in
        absurd (omega arith))
        (λ (other : k.0 + 1 ≢ length lasts). omega arith)
        (cases_eq (k.0 + 1) (length lasts)) in
        (k.0, inner, is)

    pub edges_are : HasCount (IsEdge w t) (length lasts - 1)
    edges_are = has_all_but_last (IsEdge w t) w lasts c.partition edge_at edge_last

    pub cut_by_blocks : CutByBlocks w t (length lasts)
    cut_by_blocks =
        let some = c.partition.some in
        (length lasts - 1, edges_are, omega arith)
