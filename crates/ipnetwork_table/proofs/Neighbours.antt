-- The last key of an ordered map that does not come after another, with each key converted to a network.
use Rattle.ipnetwork_table.proofs.Words.{◌≡◌, ◌<◌, ◌≤◌, true, false, cond, List, [], ◌∷◌, inl, inr, Some, None, sym, refl, ap, subst, ◌∙◌, arith, ⊎_elim, Ordering, IsSome, Less, Equal, Included, Unbounded, nat_cmp_is, nat_cmp, ordering_then, eq_by_cmp, is_lt, is_gt, FinMap, get, from_entries, find, get-from_entries, BTreeMap, IsInRange, cases_lt, Network, IsNetworkAtMost, network_cmp, at_most_from_cmp, by_pair, NoneUpTo, IsLastUpTo}
use Rattle.std.specs.BTreeMap as tree
use Rattle.ipnetwork_table.proofs.Keys.{nothing}
use Rattle.ipnetwork_table.proofs.Pairs.{total, one_network, tie_of, value_at}

-- if a comes before b or is b, it does not come after b
not_after : (a b : Network) → IsNetworkAtMost a b → is_gt (network_cmp a b) ≡ false
not_after a b most = ⊎_elim
    (λ (less : a.address < b.address). ap (λ o. is_gt (ordering_then o (nat_cmp a.prefix b.prefix)))
    (sym (nat_cmp_is a.address b.address Less less)))
    (λ (same : (a.address ≡ b.address) × (a.prefix ≤ b.prefix)).
    ap (λ o. is_gt (ordering_then o (nat_cmp a.prefix b.prefix))) (sym (nat_cmp_is a.address b.address Equal same.0))
    ∙ ⊎_elim
    (λ (less : a.prefix < b.prefix). ap is_gt (sym (nat_cmp_is a.prefix b.prefix Less less)))
    (λ (ge : b.prefix ≤ a.prefix). ap is_gt (sym (nat_cmp_is a.prefix b.prefix Equal (omega (arith, ge, same.1)))))
    (cases_lt a.prefix b.prefix))
    most

-- if b does not come before a, then a comes before b or is b
at_most_if : (a b : Network) → is_lt (network_cmp b a) ≡ false → IsNetworkAtMost a b
at_most_if a b not = elim (cases_lt a.address b.address) [
  | inl less ↦ inl less
  | inr ge ↦ elim (cases_lt b.address a.address) [
    | inl more ↦ absurd (nothing (sym not ∙ ap (λ o. is_lt (ordering_then o (nat_cmp b.prefix a.prefix)))
        (sym (nat_cmp_is b.address a.address Less more))))
    | inr le ↦
        let same : b.address ≡ a.address = omega (arith, ge, le) in
        elim (cases_lt b.prefix a.prefix) [
          | inl more ↦ absurd (nothing (sym not
              ∙ ap (λ o. is_lt (ordering_then o (nat_cmp b.prefix a.prefix)))
              (sym (nat_cmp_is b.address a.address Equal same))
              ∙ ap is_lt (sym (nat_cmp_is b.prefix a.prefix Less more))))
          | inr short ↦ inr (sym same, short)
        ]
  ]
]

module _ {K : Type 0} (pair : K → Network) (cmp : K → K → Ordering) (law : (a b : K)
    → cmp a b ≡ network_cmp (pair a) (pair b)) where
  within_end : (k end : K) → is_gt (cmp k end) ≡ false → IsNetworkAtMost (pair k) (pair end)
  within_end k end not = at_most_from_cmp (pair k) (pair end)
      (λ greater. nothing (sym not ∙ ap is_gt (law k end ∙ greater)))

  in_range : (k end : K) (n : Network) → pair k ≡ n → IsNetworkAtMost n (pair end)
      → IsInRange cmp Unbounded (Included end) k
  in_range k end n is most = (
    tt,
    ap is_gt (law k end) ∙ not_after (pair k) (pair end)
        (subst (λ m. IsNetworkAtMost m (pair end)) (sym is) most),
  )

module _ {K V : Type 0} (pair : K → Network) (cmp : K → K → Ordering) (law : (a b : K)
    → cmp a b ≡ network_cmp (pair a) (pair b)) where
  abbrev table_of : BTreeMap K V → FinMap network_cmp V
  table_of m = from_entries {R = network_cmp} (by_pair pair m.entries)

  -- each stored network is that of some key
  key_among : (es : List (K × V)) (n : Network) → IsSome (find network_cmp n (by_pair pair es)) → (k : K) × (pair k ≡ n)
  key_among [] n = λ stored. absurd (nothing stored)
  key_among (e ∷ es) n =
      elim (eq_by_cmp network_cmp n (pair e.0)) as (λ b. eq_by_cmp network_cmp n (pair e.0) ≡ b
      → IsSome (cond b (Some e.1) (find network_cmp n (by_pair pair es))) → (k : K) × (pair k ≡ n)) [
        | true ↦ λ tied stored. (e.0, sym (one_network n (pair e.0) (tie_of _ tied)))
        | false ↦ λ apart stored. key_among es n stored
      ] refl

  key_at : (m : BTreeMap K V) (n : Network) → IsSome (get (table_of m) n) → (k : K) × (pair k ≡ n)
  key_at m n stored = key_among m.entries n (subst IsSome (get-from_entries total (by_pair pair m.entries) n) stored)

  stored_at : (m : BTreeMap K V) (k : K) (n : Network) → pair k ≡ n → IsSome (get (table_of m) n)
      → IsSome (tree.get cmp m k)
  stored_at m k n is stored = subst IsSome (ap (get (table_of m)) (sym is) ∙ value_at pair cmp law m.entries k) stored

  pub none_up_to : (m : BTreeMap K V) (end : K) → ((q : K) → IsInRange cmp Unbounded (Included end) q
      → tree.get cmp m q ≡ None) → NoneUpTo (table_of m) (pair end)
  none_up_to m end none n stored most =
      let key = key_at m n stored in
      nothing (subst IsSome (none key.0 (in_range pair cmp law key.0 end n key.1 most))
      (stored_at m key.0 n key.1 stored))

  pub is_last_up_to : (m : BTreeMap K V) (end last : K) (v : V) → IsInRange cmp Unbounded (Included end) last
      → tree.get cmp m last ≡ Some v
      → ((q : K) → IsInRange cmp Unbounded (Included end) q → IsSome (tree.get cmp m q) → is_lt (cmp last q) ≡ false)
      → IsLastUpTo (table_of m) (pair end) (pair last)
  is_last_up_to m end last v within stored greatest = (
    subst IsSome (sym (value_at pair cmp law m.entries last ∙ stored)) cc,
    within_end pair cmp law last end within.1,
    λ n stored most.
        let key = key_at m n stored in
        subst (λ k. IsNetworkAtMost k (pair last)) key.1
        (at_most_if (pair key.0) (pair last) (ap is_lt (sym (law last key.0))
        ∙ greatest key.0 (in_range pair cmp law key.0 end n key.1 most) (stored_at m key.0 n key.1 stored))),
  )
