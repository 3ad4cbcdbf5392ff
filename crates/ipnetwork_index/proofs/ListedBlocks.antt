-- The blocks of a list of networks as the entries of a table.
use Rattle.ipnetwork_index.proofs.Words.{◌≡◌, ℕ, zero, suc, ◌&&◌, T, Bool, true, false, List, [], ◌∷◌, map, arith, sym, refl, ap, subst, ◌∙◌, Some, is_some, slice_get, Ordering, Less, Equal, IsTotalOrder, IsEquivalence, eq_by_cmp, is_lt, All, AllByRecursion, Contains, dedup, IsSorted, IsStrictlySortedBy, IsPermutation, unwrap_or, get, entries, from_sorted, is_sorted, entries-from_sorted, below_all, All-contains, All-contains_itself, All-weaker, Any-dedup, Contains-from_dedup, IsStrictlySortedBy-dedup, Contains-permutation, IsPermutation-sym, contains_nil, Network, IsCidrBlock, block_of, network_cmp, ListedIsStored, StoredIsListed, HasOnlyBlocks, one_network, tie_of, HasBlocksOf, HasValue, AreListedBlocks, HasEntries}
use Rattle.ipnetwork_index.proofs.Edging.{contains_of_map, map_of_contains, nothing, some_value}

both_hold : (a b : Bool) → T a → T b → T (a && b)
both_hold true b p q = q
both_hold false b p q = p

-- ---- networks sorted and without duplicates, with a value

module _ {N V : Type 0} (R : N → N → Ordering) (E : N → N → Bool) (pair : N → Network) (value : V)
    (order : (x y : N) → R x y ≡ network_cmp (pair x) (pair y))
    (ties : (x y : N) → E x y ≡ eq_by_cmp R x y) where
  with_value : List N → List (Network × V)
  with_value ns = map (λ n. (pair n, value)) ns

  all_below : (x : N) (ys : List N) → AllByRecursion (λ y. R x y ≡ Less) ys
      → T (below_all network_cmp (pair x) (with_value ys))
  unfolding with_value
  all_below x [] h = tt
  all_below x (y ∷ ys) h =
      both_hold (is_lt (network_cmp (pair x) (pair y))) _
      (subst (λ (r : Ordering). T (is_lt r)) (sym (sym (order x y) ∙ h.0)) tt) (all_below x ys h.1)

  rising : (ys : List N) → IsStrictlySortedBy R ys → T (is_sorted network_cmp (with_value ys))
  unfolding IsStrictlySortedBy with_value
  rising [] s = tt
  rising (y ∷ ys) s =
      both_hold (below_all network_cmp (pair y) (with_value ys)) _ (all_below y ys s.0) (rising ys s.1)

  keyed : (ys : List N) → with_value ys ≡ map (λ n. (n, value)) (map pair ys)
  unfolding with_value
  keyed [] = refl
  keyed (y ∷ ys) = ap (λ es. (pair y, value) ∷ es) (keyed ys)

  -- what remains is among the networks
  module _ (xs sorted : List N) (p : IsPermutation xs sorted) where
    from_kept : (n : Network) → Contains (map pair (dedup E sorted)) n → Contains (map pair xs) n
    from_kept n c =
        let a = contains_of_map pair (dedup E sorted) n c in
        let b = Contains-permutation sorted xs a.0 (IsPermutation-sym xs sorted p)
        (Contains-from_dedup E sorted a.0 a.1) in
        subst (λ (m : Network). Contains (map pair xs) m) a.2 (map_of_contains pair xs a.0 b)

    into_kept : IsEquivalence E → (n : Network) → Contains (map pair xs) n
        → Contains (map pair (dedup E sorted)) n
    into_kept e n c =
        let a = contains_of_map pair xs n c in
        let k = Any-dedup e sorted a.0 (Contains-permutation xs sorted a.0 p a.1) in
        let z : N = k.1 in
        let tied : R a.0 z ≡ Equal = tie_of (R a.0 z) (sym (ties a.0 z) ∙ k.4) in
        let same : pair a.0 ≡ pair z = one_network (pair a.0) (pair z) (sym (order a.0 z) ∙ tied) in
        subst (λ (m : Network). Contains (map pair (dedup E sorted)) m) (sym same ∙ a.2)
        (map_of_contains pair (dedup E sorted) z (k.0, k.2, k.3))

  pub made : IsTotalOrder R → IsEquivalence E → (w : ℕ) (networks : List Network)
      (xs sorted : List N) (es : List (Network × V))
      → map pair xs ≡ map (block_of w) networks → All (IsCidrBlock w) (map pair xs)
      → IsPermutation xs sorted → IsSorted R sorted
      → es ≡ map (λ n. (pair n, value)) (dedup E sorted) → AreListedBlocks w networks value es
  unfolding with_value
  made total e w networks xs sorted es blocks are p s is =
      let kept : List N = dedup E sorted in
      let strict = IsStrictlySortedBy-dedup total ties sorted s in
      record {
        keys = map pair kept;
        own = is ∙ keyed kept;
        sorted = subst (λ (fs : List (Network × V)). T (is_sorted network_cmp fs)) (sym is)
            (rising kept strict);
        are_blocks = All-weaker (Contains (map pair kept)) (IsCidrBlock w)
            (λ n c. All-contains (IsCidrBlock w) (map pair xs) n are (from_kept xs sorted p n c))
            (map pair kept) (All-contains_itself (map pair kept));
        all = λ n. (
          (λ c.
              let d = subst (λ (ms : List Network). Contains ms n) blocks
              (from_kept xs sorted p n c) in
              contains_of_map (block_of w) networks n d),
          (λ m.
              let d = map_of_contains (block_of w) networks m.0 m.1 in
              into_kept xs sorted p e n (subst (λ (ms : List Network). Contains ms n) (sym blocks)
              (subst (λ (k : Network). Contains (map (block_of w) networks) k) m.2 d))),
        );
      }

-- ---- what an entry says

module _ {V : Type 0} (value : V) where
  of_entry : (keys : List Network) (i : ℕ) (n : Network) (v : V)
      → slice_get {X = Network × V} (map (λ k. (k, value)) keys) i ≡ Some (n, v)
      → Contains keys n × (v ≡ value)
  of_entry [] i n v e = absurd (nothing (n, v) e)
  of_entry (k ∷ keys) zero n v e =
      let d : Network × V = (k, value) in
      let same : ◌≡◌ {A = Network × V} d (n, v) = ap (λ o. unwrap_or o d) e in
      ((0, omega arith, ap (λ d. d.0) same), sym (ap (λ d. d.1) same))
  of_entry (k ∷ keys) (suc i) n v e =
      let rest = of_entry keys i n v e in
      ((suc rest.0.0, omega (arith, rest.0.1), rest.0.2), rest.1)

  entry_of : (keys : List Network) (n : Network) → Contains keys n
      → (i : ℕ) × (slice_get {X = Network × V} (map (λ k. (k, value)) keys) i ≡ Some (n, value))
  entry_of [] n c = absurd (contains_nil n c)
  entry_of (k ∷ keys) n (zero, l, e) = (0, ap (λ m. Some (m, value)) e)
  entry_of (k ∷ keys) n (suc i, l, e) =
      let rest = entry_of keys n (i, omega (arith, l), e) in (suc rest.0, rest.1)

-- ---- the table of such entries

module _ {V : Type 0} (w : ℕ) (networks : List Network) (value : V) (es : List (Network × V))
    (h : AreListedBlocks w networks value es) where
  its_entries : es ≡ entries (from_sorted {R = network_cmp} es)
  its_entries = sym (entries-from_sorted network_cmp es h.sorted)

  module _ (listed : StoredIsListed V) where
    of_stored : (n : Network) (v : V) → get (from_sorted {R = network_cmp} es) n ≡ Some v
        → Contains h.keys n × (v ≡ value)
    of_stored n v g =
        let at = listed (from_sorted {R = network_cmp} es) n v g in
        of_entry value h.keys at.0 n v
        (subst (λ (fs : List (Network × V)). slice_get fs at.0 ≡ Some (n, v))
        (sym its_entries ∙ h.own) at.1)

    only_blocks : HasOnlyBlocks w (from_sorted {R = network_cmp} es)
    only_blocks n s =
        let v = some_value (get (from_sorted {R = network_cmp} es) n) s in
        All-contains (IsCidrBlock w) h.keys n h.are_blocks (of_stored n v.0 v.1).0

    pub has_value : HasValue value (from_sorted {R = network_cmp} es)
    has_value n v g = (of_stored n v g).1

    pub has_blocks : ListedIsStored V → HasBlocksOf w networks (from_sorted {R = network_cmp} es)
    has_blocks stored n = (
      (λ s.
          let v = some_value (get (from_sorted {R = network_cmp} es) n) s in
          (h.all n).0 (of_stored n v.0 v.1).0),
      (λ m.
          let at = entry_of value h.keys n ((h.all n).1 m) in
          ap is_some (stored (from_sorted {R = network_cmp} es) at.0 n value
          (subst (λ (fs : List (Network × V)). slice_get fs at.0 ≡ Some (n, value))
          (sym h.own ∙ its_entries) at.1))),
    )

    pub its_table : HasEntries w (from_sorted {R = network_cmp} es) es
    its_table = record { blocks = only_blocks; own = its_entries }
