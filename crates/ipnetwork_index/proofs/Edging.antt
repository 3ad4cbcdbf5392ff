-- The edges of the blocks of a table.
use Rattle.ipnetwork_index.proofs.Words.{◌≡◌, ℕ, zero, suc, ◌+◌, ◌^◌, ◌<◌, ◌≤◌, ◌⊎◌, inl, inr, Bool, true, false, List, [], ◌∷◌, ◌++◌, length, get_or, map, arith, sym, refl, ap, subst, ◌∙◌, ⊎_elim, Option, None, Some, IsSome, is_some, slice_get, Ordering, true≢false, append_assoc, take, Less, Equal, IsTotalOrder, IsEquivalence, ranked, nat_cmp, eq_by_cmp, AllByRecursion, Contains, dedup, IsSorted, IsStrictlySortedBy, IsPermutation, unwrap_or, FinMap, get, entries, append-nil, map_push, take_more, Any-dedup, Contains-from_dedup, IsStrictlySortedBy-dedup, Contains-permutation, IsPermutation-map, IsPermutation-sym, Contains-append_cases, Contains-append_left, Contains-append_right, Contains-push, Network, low, high, network_cmp, ListedIsStored, StoredIsListed, contains_cons, contains_nil, by_pair, tie_of, before, cuts_of, Rises, Closes, edges_of, CutsOut}

-- ---- each block has its edges

pub nothing : {A : Type 0} (a : A) → None ≡ Some a → ⊥
nothing a e = let f : false ≡ true = ap is_some e in cc

pub edge_in : {V : Type 0} (w : ℕ) (es : List (Network × V)) (i : ℕ) (e : Network × V) (y : ℕ)
    → slice_get es i ≡ Some e → Contains (cuts_of (low w e.0, high w e.0)) y
    → Contains (edges_of w es) y
edge_in {V} w [] i e y at c = absurd (nothing e at)
edge_in {V} w (d ∷ es) zero e y at c =
    let same : d ≡ e = ap (λ o. unwrap_or o d) at in
    Contains-append_left (cuts_of (low w d.0, high w d.0)) (edges_of w es) y
    (subst (λ (f : Network × V). Contains (cuts_of (low w f.0, high w f.0)) y) (sym same) c)
edge_in {V} w (d ∷ es) (suc i) e y at c = Contains-append_right (cuts_of (low w d.0, high w d.0))
    (edges_of w es) y (edge_in w es i e y at c)

own_end : (first last : ℕ) → Contains (cuts_of (first, last)) last
own_end first last = Contains-push (before first) last

end_before : (first last x : ℕ) → x + 1 ≡ first → Contains (cuts_of (first, last)) x
end_before zero last x e = absurd (omega arith)
end_before (suc n) last x e = let same : n ≡ x = omega arith in (0, omega arith, same)

-- each edge belongs to a block
edge_of : (first last x : ℕ) → Contains (cuts_of (first, last)) x → (last ≡ x) ⊎ (first ≡ x + 1)
edge_of zero last x c =
    ⊎_elim (λ (e : last ≡ x). inl e) (λ (d : Contains [] x). absurd (contains_nil x d))
    (contains_cons last [] x c)
edge_of (suc n) last x c =
    ⊎_elim (λ (e : n ≡ x). inr (omega arith))
    (λ (d : Contains (last ∷ []) x). ⊎_elim (λ (e : last ≡ x). inl e)
    (λ (f : Contains [] x). absurd (contains_nil x f)) (contains_cons last [] x d))
    (contains_cons n (last ∷ []) x c)

edge_back : {V : Type 0} (w : ℕ) (es : List (Network × V)) (x : ℕ) → Contains (edges_of w es) x
    → (i : ℕ) × (e : Network × V) × (slice_get es i ≡ Some e)
    × ((high w e.0 ≡ x) ⊎ (low w e.0 ≡ x + 1))
edge_back {V} w [] x c = absurd (contains_nil x c)
edge_back {V} w (e ∷ es) x c =
    ⊎_elim
    (λ (d : Contains (cuts_of (low w e.0, high w e.0)) x).
    (0, e, refl, edge_of (low w e.0) (high w e.0) x d))
    (λ (d : Contains (edges_of w es) x).
    let r = edge_back w es x d in (suc r.0, r.1, r.2, r.3))
    (Contains-append_cases (cuts_of (low w e.0, high w e.0)) (edges_of w es) x c)

-- the first items of a list, followed by the next one
pub next_taken : {A : Type 0} (xs : List A) (i : ℕ) (x : A) → i < length xs → x ≡ get_or xs i x
    → take (i + 1) xs ≡ take i xs ++ x ∷ []
next_taken xs i x l is = take_more xs i x l ∙ ap (λ y. take i xs ++ y ∷ []) (sym is)

pub some_value : {A : Type 0} (o : Option A) → IsSome o → (a : A) × (o ≡ Some a)
some_value None s = absurd (true≢false (sym s))
some_value (Some a) s = (a, refl)

-- the cuts are among the last numbers
closes_keeps : (w : ℕ) (cuts lasts : List ℕ) (y : ℕ) → Closes w cuts lasts → Contains cuts y
    → Contains lasts y
closes_keeps w cuts lasts y h c =
    ⊎_elim
    (λ (same : lasts ≡ cuts). subst (λ (xs : List ℕ). Contains xs y) (sym same) c)
    (λ (more : (top : ℕ) × (top + 1 ≡ 2 ^ w) × (lasts ≡ cuts ++ top ∷ [])).
    subst (λ (xs : List ℕ). Contains xs y) (sym more.2) (Contains-append_left cuts (more.0 ∷ []) y
    c))
    h.either

-- all last numbers except the greatest are cuts
closes_only : (w : ℕ) (cuts lasts : List ℕ) (x : ℕ) → Closes w cuts lasts → Contains lasts x
    → x + 1 < 2 ^ w → Contains cuts x
closes_only w cuts lasts x h c small =
    ⊎_elim
    (λ (same : lasts ≡ cuts). subst (λ (xs : List ℕ). Contains xs x) same c)
    (λ (more : (top : ℕ) × (top + 1 ≡ 2 ^ w) × (lasts ≡ cuts ++ top ∷ [])).
    ⊎_elim
    (λ (d : Contains cuts x). d)
    (λ (d : Contains (more.0 ∷ []) x). ⊎_elim
    (λ (e : more.0 ≡ x). let top : more.0 + 1 ≡ 2 ^ w = more.1 in absurd (omega arith))
    (λ (f : Contains [] x). absurd (contains_nil x f)) (contains_cons more.0 [] x d))
    (Contains-append_cases cuts (more.0 ∷ []) x (subst (λ (xs : List ℕ). Contains xs x) more.2 c)))
    h.either

-- ---- sorted and without duplicates

-- an item of a mapped list is the image of an item
pub contains_of_map : {A B : Type 0} (f : A → B) (xs : List A) (y : B) → Contains (map f xs) y → (a : A)
    × Contains xs a × (f a ≡ y)
contains_of_map f [] y c = let l = c.1 in absurd (omega arith)
contains_of_map f (x ∷ xs) y (zero, l, e) = (x, (0, omega arith, refl), e)
contains_of_map f (x ∷ xs) y (suc k, l, e) =
    let rest = contains_of_map f xs y (k, omega arith, e) in
    (rest.0, (suc rest.1.0, omega (arith, rest.1.1), rest.1.2), rest.2)

pub map_of_contains : {A B : Type 0} (f : A → B) (xs : List A) (a : A) → Contains xs a
    → Contains (map f xs) (f a)
map_of_contains f [] a c = let l = c.1 in absurd (omega arith)
map_of_contains f (x ∷ xs) a (zero, l, e) = (0, omega arith, ap f e)
map_of_contains f (x ∷ xs) a (suc k, l, e) =
    let rest = map_of_contains f xs a (k, omega arith, e) in
    (suc rest.0, omega (arith, rest.1), rest.2)

-- addresses ordered by their numbers
module _ {A : Type 0} (R : A → A → Ordering) (E : A → A → Bool) (f : A → ℕ) (by_number : (x y : A)
    → R x y ≡ nat_cmp (f x) (f y)) (ties : (x y : A) → E x y ≡ eq_by_cmp R x y) where
  above : (x : A) (xs : List A) → AllByRecursion (λ y. R x y ≡ Less) xs
      → AllByRecursion (λ y. f x + 1 ≤ f y) xs
  above x [] h = h
  above x (y ∷ ys) h =
      let less : f x < f y = ranked (f x) (f y) Less (sym (sym (by_number x y) ∙ h.0)) in
      (omega arith, above x ys h.1)

  rises_by : (least : ℕ) (xs : List A) → AllByRecursion (λ y. least ≤ f y) xs
      → IsStrictlySortedBy R xs → Rises least (map f xs)
  unfolding IsStrictlySortedBy
  rises_by least [] a s = tt
  rises_by least (x ∷ xs) a s = (a.0, rises_by (f x + 1) xs (above x xs s.0) s.1)

  none_below : (xs : List A) → AllByRecursion (λ y. 0 ≤ f y) xs
  none_below [] = tt
  none_below (x ∷ xs) = (omega arith, none_below xs)

  pub each_once : IsTotalOrder R → (xs : List A) → IsSorted R xs → Rises 0 (map f (dedup E xs))
  each_once total xs s = rises_by 0 (dedup E xs) (none_below (dedup E xs))
      (IsStrictlySortedBy-dedup total ties xs s)

  kept : IsEquivalence E → (xs : List A) (y : ℕ) → Contains (map f xs) y
      → Contains (map f (dedup E xs)) y
  kept e xs y c =
      let a = contains_of_map f xs y c in
      let k = Any-dedup e xs a.0 a.1 in
      let z : A = k.1 in
      let tied : R a.0 z ≡ Equal = tie_of (R a.0 z) (sym (ties a.0 z) ∙ k.4) in
      let same : f a.0 ≡ f z = ranked (f a.0) (f z) Equal (sym (sym (by_number a.0 z) ∙ tied)) in
      subst (λ (n : ℕ). Contains (map f (dedup E xs)) n) (sym same
      ∙ a.2) (map_of_contains f (dedup E xs) z (k.0, k.2, k.3))

  -- ---- each block is cut out

  pub all_cut_out : {V : Type 0} (w : ℕ) (t : FinMap network_cmp V) (edges sorted : List A)
      (lasts : List ℕ) → IsEquivalence E → StoredIsListed V
      → ListedIsStored V → map f edges ≡ edges_of w (entries t) → IsPermutation edges sorted
      → Closes w (map f (dedup E sorted)) lasts → CutsOut w t lasts
  all_cut_out {V} w t edges sorted lasts e listed stored is p c =
      let through : (y : ℕ) → Contains (edges_of w (entries t)) y → Contains lasts y = λ y h.
      closes_keeps w (map f (dedup E sorted)) lasts y c
      (kept e sorted y (Contains-permutation (map f edges) (map f sorted) y
      (IsPermutation-map f edges sorted p) (subst (λ (xs : List ℕ). Contains xs y) (sym is) h))) in
      record {
        partition = c.partition;
        blocks = λ n s.
            let v = some_value (get t n) s in
            let at = listed t n v.0 v.1 in
            record {
              end = through (high w n) (edge_in w (entries t) at.0 (n, v.0) (high w n) at.1
                  (own_end (low w n) (high w n)));
              start = λ x q. through x (edge_in w (entries t) at.0 (n, v.0) x at.1
                  (end_before (low w n) (high w n) x q));
            };
        only = λ x k small.
            let d = contains_of_map f (dedup E sorted) x
            (closes_only w (map f (dedup E sorted)) lasts x c k small) in
            let a = map_of_contains f sorted d.0 (Contains-from_dedup E sorted d.0 d.1) in
            let b = Contains-permutation (map f sorted) (map f edges) (f d.0)
            (IsPermutation-sym (map f edges) (map f sorted) (IsPermutation-map f edges sorted p))
            a in
            let m : Contains (edges_of w (entries t)) x
            = subst (λ (y : ℕ). Contains (edges_of w (entries t)) y) d.2
            (subst (λ (xs : List ℕ). Contains xs (f d.0)) is b) in
            let r = edge_back w (entries t) x m in
            (r.1.0, ap is_some (stored t r.0 r.1.0 r.1.1 r.2), r.3);
      }

-- the edges with those of one more block
pub edges_more : {V : Type 0} (w : ℕ) (es : List (Network × V)) (e : Network × V)
    → edges_of w (es ++ e ∷ []) ≡ edges_of w es ++ cuts_of (low w e.0, high w e.0)
edges_more w [] e = append-nil (cuts_of (low w e.0, high w e.0))
edges_more w (d ∷ es) e =
    ap (λ xs. cuts_of (low w d.0, high w d.0) ++ xs) (edges_more w es e)
    ∙ sym (append_assoc (cuts_of (low w d.0, high w d.0)) (edges_of w es)
    (cuts_of (low w e.0, high w e.0)))

-- the number before a block, if any
pub before_some : (first x : ℕ) → x + 1 ≡ first → before first ≡ x ∷ []
before_some zero x e = absurd (omega arith)
before_some (suc n) x e = let same : n ≡ x = omega arith in ap (λ y. y ∷ []) same

pub before_none : (first : ℕ) → first ≡ 0 → before first ≡ []
before_none zero e = refl
before_none (suc n) e = absurd (omega arith)

-- the edges with those of one more entry, which are added in two steps
module _ {A N V : Type 0} (f : A → ℕ) (pair : N → Network) (w : ℕ) (es : List (N × V)) (i : ℕ)
    (e : N × V) where
  edges_taken : take (i + 1) es ≡ take i es ++ e ∷ []
      → edges_of w (by_pair pair (take (i + 1) es))
      ≡ edges_of w (by_pair pair (take i es)) ++ cuts_of (low w (pair e.0), high w (pair e.0))
  edges_taken more =
      ap (λ l. edges_of w (by_pair pair l)) more
      ∙ ap (edges_of w) (map_push (λ d. (pair d.0, d.1)) (take i es) e)
      ∙ edges_more w (by_pair pair (take i es)) (pair e.0, e.1)

  pub edges_put : (old mid new : List A) (last : A) → take (i + 1) es ≡ take i es ++ e ∷ []
      → map f old ≡ edges_of w (by_pair pair (take i es))
      → map f mid ≡ map f old ++ before (low w (pair e.0)) → new ≡ mid ++ last ∷ []
      → f last ≡ high w (pair e.0) → map f new ≡ edges_of w (by_pair pair (take (i + 1) es))
  edges_put old mid new last more are first is end =
      ap (map f) is ∙ map_push f mid last ∙ ap (λ xs. xs ++ f last ∷ []) first
      ∙ append_assoc (map f old) (before (low w (pair e.0))) (f last ∷ [])
      ∙ ap (λ x. map f old ++ (before (low w (pair e.0)) ++ x ∷ [])) end
      ∙ ap (λ xs. xs ++ cuts_of (low w (pair e.0), high w (pair e.0))) are
      ∙ sym (edges_taken more)

  pub mid_some : (old mid : List A) (x : A) → mid ≡ old ++ x ∷ [] → f x + 1 ≡ low w (pair e.0)
      → map f mid ≡ map f old ++ before (low w (pair e.0))
  mid_some old mid x is first =
      ap (map f) is ∙ map_push f old x
      ∙ ap (λ xs. map f old ++ xs) (sym (before_some (low w (pair e.0)) (f x) first))

  pub mid_none : (old mid : List A) → mid ≡ old → low w (pair e.0) ≡ 0
      → map f mid ≡ map f old ++ before (low w (pair e.0))
  mid_none old mid is none =
      ap (map f) is ∙ sym (append-nil (map f old))
      ∙ ap (λ xs. map f old ++ xs) (sym (before_none (low w (pair e.0)) none))
