-- The entries of a finite map from networks, as a list.
use Rattle.ipnetwork_table.proofs.Words.{◌≡◌, ℕ, zero, suc, ◌<◌, ◌≤◌, true, false, cond, T, List, [], ◌∷◌, Some, None, sym, refl, ap, subst, ◌∙◌, arith, slice_get, is_some, inl, inr, ⊎_elim, Less, Equal, Greater, tied_itself, nat_cmp_is, ranked, unwrap_or, nat_cmp, ordering_then, eq_by_cmp, is_eq, FinMap, get, entries, entries_sorted, get-entries, find, is_sorted, below_all, cases_lt, Network, IsNetworkBefore, Subnet, network_cmp, subnet_after, HasOnlyBlocks}
use Rattle.ipnetwork_table.proofs.Pairs.{total, one_network, tie_of, before, first_holds, second_holds}

nothing : {A : Type 0} (a : A) → None ≡ Some a → ⊥
nothing a e = let f : false ≡ true = ap is_some e in cc

pub same_value : {A : Type 0} (a b : A) → Some a ≡ Some b → a ≡ b
same_value a b same = ap (λ o. unwrap_or o a) same

is_before : (m n : Network) → network_cmp m n ≡ Less → IsNetworkBefore m n
is_before m n less = elim (cases_lt m.address n.address) [
  | inl below ↦ inl below
  | inr ge ↦ elim (cases_lt n.address m.address) [
    | inl above ↦ absurd (let clash : Greater ≡ Less = ap (λ o. ordering_then o (nat_cmp m.prefix n.prefix))
        (nat_cmp_is m.address n.address Greater above) ∙ less in cc)
    | inr le ↦
        let same : m.address ≡ n.address = omega (arith, ge, le) in
        let by_prefix : nat_cmp m.prefix n.prefix ≡ Less =
        ap (λ o. ordering_then o (nat_cmp m.prefix n.prefix)) (nat_cmp_is m.address n.address Equal same) ∙ less in
        inr (same, ranked m.prefix n.prefix Less (sym by_prefix))
  ]
]

not_itself : (n : Network) → ¬ (IsNetworkBefore n n)
not_itself n h = ⊎_elim (λ (less : n.address < n.address). omega (arith, less))
    (λ (less : (n.address ≡ n.address) × (n.prefix < n.prefix)). omega (arith, less.1)) h

module _ {V : Type 0} where
  all_after : (m : Network) (es : List (Network × V)) → T (below_all network_cmp m es) → (i : ℕ) (e : Network × V)
      → slice_get es i ≡ Some e → IsNetworkBefore m e.0
  all_after m [] below i e at = absurd (nothing e at)
  all_after m (d ∷ es) below zero e at =
      subst (λ (f : Network × V). IsNetworkBefore m f.0) (same_value d e at)
      (is_before m d.0 (before (network_cmp m d.0) (first_holds _ _ below)))
  all_after m (d ∷ es) below (suc i) e at = all_after m es (second_holds _ _ below) i e at

  ascend : (es : List (Network × V)) → T (is_sorted network_cmp es) → (i j : ℕ) (d e : Network × V)
      → slice_get es i ≡ Some d → slice_get es j ≡ Some e → i < j → IsNetworkBefore d.0 e.0
  ascend [] sorted i j d e at_i at_j less = absurd (nothing d at_i)
  ascend (f ∷ es) sorted i zero d e at_i at_j less = absurd (omega (arith, less))
  ascend (f ∷ es) sorted zero (suc j) d e at_i at_j less =
      subst (λ (g : Network × V). IsNetworkBefore g.0 e.0) (same_value f d at_i)
      (all_after f.0 es (first_holds _ _ sorted) j e at_j)
  ascend (f ∷ es) sorted (suc i) (suc j) d e at_i at_j less =
      ascend es (second_holds _ _ sorted) i j d e at_i at_j (omega (arith, less))

  stored_if_listed : (es : List (Network × V)) → T (is_sorted network_cmp es) → (i : ℕ) (n : Network) (v : V)
      → slice_get es i ≡ Some (n, v) → find network_cmp n es ≡ Some v
  stored_if_listed [] sorted i n v at = absurd (nothing (n, v) at)
  stored_if_listed (e ∷ es) sorted zero n v at =
      let same : e ≡ (n, v) = same_value e (n, v) at in
      subst (λ (d : Network × V). find network_cmp n (d ∷ es) ≡ Some v) (sym same)
      (ap (λ o. cond (is_eq o) (Some v) (find network_cmp n es)) (tied_itself total n))
  stored_if_listed (e ∷ es) sorted (suc i) n v at =
      elim (eq_by_cmp network_cmp n e.0) as (λ b. eq_by_cmp network_cmp n e.0 ≡ b
      → cond b (Some e.1) (find network_cmp n es) ≡ Some v) [
        | true ↦ λ tied. absurd (not_itself e.0
            (subst (λ (m : Network). IsNetworkBefore e.0 m) (one_network n e.0 (tie_of _ tied))
            (all_after e.0 es (first_holds _ _ sorted) i (n, v) at)))
        | false ↦ λ apart. stored_if_listed es (second_holds _ _ sorted) i n v at
      ] refl

  listed_if_stored : (es : List (Network × V)) (n : Network) (v : V) → find network_cmp n es ≡ Some v
      → (i : ℕ) × (slice_get es i ≡ Some (n, v))
  listed_if_stored [] n v stored = absurd (nothing v stored)
  listed_if_stored (e ∷ es) n v stored =
      elim (eq_by_cmp network_cmp n e.0) as (λ b. eq_by_cmp network_cmp n e.0 ≡ b
      → cond b (Some e.1) (find network_cmp n es) ≡ Some v
      → (i : ℕ) × (slice_get (e ∷ es) i ≡ Some (n, v))) [
        | true ↦ λ tied has.
            let key : e.0 ≡ n = sym (one_network n e.0 (tie_of _ tied)) in
            let value : e.1 ≡ v = same_value e.1 v has in
            (0, λ k. Some (key k, value k))
        | false ↦ λ apart has. let rest = listed_if_stored es n v has in (suc rest.0, rest.1)
      ] refl stored

  -- ---- the entries of a table

  pub listed_is_stored : (t : FinMap network_cmp V) (i : ℕ) (n : Network) (v : V)
      → slice_get (entries t) i ≡ Some (n, v) → get t n ≡ Some v
  listed_is_stored t i n v at = get-entries t n ∙ stored_if_listed (entries t) (entries_sorted t) i n v at

  pub stored_is_listed : (t : FinMap network_cmp V) (n : Network) (v : V) → get t n ≡ Some v
      → (i : ℕ) × (slice_get (entries t) i ≡ Some (n, v))
  stored_is_listed t n v stored = listed_if_stored (entries t) n v (sym (get-entries t n) ∙ stored)

  pub entries_ascend : (t : FinMap network_cmp V) (i j : ℕ) (d e : Network × V) → slice_get (entries t) i ≡ Some d
      → slice_get (entries t) j ≡ Some e → i < j → IsNetworkBefore d.0 e.0
  entries_ascend t i j d e at_i at_j less = ascend (entries t) (entries_sorted t) i j d e at_i at_j less

  pub wider_first : (w : ℕ) (t : FinMap network_cmp V) (i j : ℕ) (d e : Network × V) → HasOnlyBlocks w t
      → slice_get (entries t) i ≡ Some d → slice_get (entries t) j ≡ Some e → i < j
      → ¬ (Subnet w d.0 e.0)
  wider_first w t i j d e blocks at_i at_j less inside =
      let block_d = blocks d.0 (ap is_some (listed_is_stored t i d.0 d.1 at_i)) in
      let block_e = blocks e.0 (ap is_some (listed_is_stored t j e.0 e.1 at_j)) in
      let ahead = entries_ascend t i j d e at_i at_j less in
      let behind = subnet_after w e.0 d.0 block_e.network block_d.network block_e.block block_d.block inside in
      ⊎_elim
      (λ (low : d.0.address < e.0.address). ⊎_elim
      (λ (high : e.0.address < d.0.address). omega (arith, low, high))
      (λ (same : (e.0.address ≡ d.0.address) × (e.0.prefix ≤ d.0.prefix)). omega (arith, low, same.0)) behind)
      (λ (same : (d.0.address ≡ e.0.address) × (d.0.prefix < e.0.prefix)). ⊎_elim
      (λ (high : e.0.address < d.0.address). omega (arith, same.0, high))
      (λ (also : (e.0.address ≡ d.0.address) × (e.0.prefix ≤ d.0.prefix)). omega (arith, same.1, also.1)) behind)
      ahead
