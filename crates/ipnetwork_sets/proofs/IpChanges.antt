-- Adding a network to the set of its family, or removing it.
use Rattle.ipnetwork_sets.proofs.Words.{◌≡◌, ◌↔◌, ℕ, ◌<◌, inl, ⊎_elim, sym, refl, ap, ◌∙◌, arith, Bool, IsTrue, List, [], ◌∷◌, length, Option, Result, OnErr, OnOk, IfOk, on_ok_weaker, on_err_weaker, IfOk-weaker, filter_map, IpAddr, Network, IpNetwork, V4, V6, InUnion, LiesInUnion, as_v4, as_v6, LiesInIpUnion, IsLeastList, contains_nil, least_of_same, least_unique, IsAddressSet, MeetsUnion, InEither, InFirstAlone, v4_then_v6, IsIpLeastList, MeetsIpUnion, InIpEither, InIpFirstAlone, ChangesTo, through, v4_own, v6_own, v4_family, v6_family, lies_in_family}
use Rattle.ipnetwork_sets.proofs.IpFamilies.{meets_in_family}
use Rattle.ipnetwork_sets.proofs.IpFamilySets.{not_iff, IsOperation, either, alone, least_of_families, parts}
use Rattle.ipnetwork_sets.proofs.IpQuestions.{length_by_family}

-- ---- the changes

-- adding or removing no network leaves a set unchanged
either_none : (w : ℕ) (bs : List Network) → IsAddressSet w bs → IsLeastList w (InEither w bs []) bs
either_none w bs h =
    least_of_same w (InUnion w bs) (InEither w bs []) bs
    (λ x. (
      (λ c. inl c),
      (λ o. ⊎_elim (λ (c : InUnion w bs x). c)
          (λ (c : InUnion w [] x). absurd (contains_nil c.0 c.1)) o),
    ))
    h

alone_none : (w : ℕ) (bs : List Network) → IsAddressSet w bs → IsLeastList w (InFirstAlone w bs []) bs
alone_none w bs h =
    least_of_same w (InUnion w bs) (InFirstAlone w bs []) bs
    (λ x. ((λ c. (c, λ d. contains_nil d.0 d.1)), (λ p. p.0)))
    h

-- an operation on a set and a network of one family, the same for either family, and what the result says
pub record IsChange (F : ℕ → List Network → List Network → ℕ → Type 0) (G : List IpNetwork → List IpNetwork
    → IpAddr → Type 0)
    (P : ℕ → Network → List Network → Type 0) (Q : IpNetwork → List IpNetwork → Type 0) : Type 0 where
  operation : IsOperation F G
  none : (w : ℕ) (bs : List Network) → IsAddressSet w bs → IsLeastList w (F w bs []) bs
  v4_told : (ns : List IpNetwork) (n : Network) → P 32 n (filter_map as_v4 ns) ↔ Q (V4 n) ns
  v6_told : (ns : List IpNetwork) (n : Network) → P 128 n (filter_map as_v6 ns) ↔ Q (V6 n) ns

pub adding : IsChange InEither InIpEither (λ w n l. ¬ (LiesInUnion w n l)) (λ n ns. ¬ (LiesInIpUnion n ns))
adding = record {
  operation = either;
  none = either_none;
  v4_told = λ ns n. not_iff (lies_in_family v4_family ns n);
  v6_told = λ ns n. not_iff (lies_in_family v6_family ns n);
}

pub taking : IsChange InFirstAlone InIpFirstAlone MeetsUnion MeetsIpUnion
taking = record
    { operation = alone; none = alone_none; v4_told = meets_in_family v4_family; v6_told = meets_in_family v6_family }

-- ---- a network of one family, and the set of two lists

module _ {F : ℕ → List Network → List Network → ℕ → Type 0} {G : List IpNetwork → List IpNetwork → IpAddr → Type 0}
    {P : ℕ → Network → List Network → Type 0} {Q : IpNetwork → List IpNetwork → Type 0} (change : IsChange F G P Q)
    (old : List IpNetwork) (v4 v6 : List Network) (n : Network) (was : v4_then_v6 v4 v6 ≡ old)
    (sets : IsAddressSet 32 v4 × IsAddressSet 128 v6) where
  own_v4 : v4 ≡ filter_map as_v4 old
  own_v4 = v4_own old v4 v6 (sym was)

  own_v6 : v6 ≡ filter_map as_v6 old
  own_v6 = v6_own old v4 v6 (sym was)

  -- the changed set and the result are those of the network's family; `joined` adds the other family's list
  one_family : {E : Type 0} (w : ℕ) (own : IpNetwork → Option Network) (a : IpNetwork) (joined : List Network
      → List IpNetwork) (mine r : List Network) (result : Result Bool E)
      → mine ≡ filter_map own old → joined mine ≡ old → P w n (filter_map own old) ↔ Q a old
      → (IsLeastList w (F w mine (n ∷ [])) r → IsIpLeastList (G old (a ∷ [])) (joined r))
      → ((blocks : List IpNetwork) → IsIpLeastList (G old (a ∷ [])) blocks → IsLeastList w (F w mine (n ∷ []))
      (filter_map own blocks) × (length mine < length (filter_map own blocks) → length old < length blocks))
      → OnOk result (IsLeastList w (F w mine (n ∷ [])) r) → IfOk result (λ told. IsTrue told ↔ P w n mine)
      → ((blocks : List Network) → IsLeastList w (F w mine (n ∷ [])) blocks
      → OnErr result (length mine < length blocks)) → OnErr result (r ≡ mine)
      → ChangesTo (G old (a ∷ [])) (Q a old) old (joined r) result
  one_family w own a joined mine r result is whole same made parted set told room unchanged = record {
    set = on_ok_weaker result made set;
    tells = IfOk-weaker result (λ t. IsTrue t ↔ P w n mine) (λ t. IsTrue t ↔ Q a old)
        (λ t p. through (rw is at p) same) told;
    room = λ blocks all. let part = parted blocks all in on_err_weaker {Q = length old < length blocks} result part.1
        (room (filter_map own blocks) part.0);
    unchanged = on_err_weaker result (λ (e : r ≡ mine). ap joined e ∙ whole) unchanged;
  }

  pub changed_v4 : {E : Type 0} (result : Result Bool E) (r : List Network)
      → OnOk result (IsLeastList 32 (F 32 v4 (n ∷ [])) r) → IfOk result (λ told. IsTrue told ↔ P 32 n v4)
      → ((blocks : List Network) → IsLeastList 32 (F 32 v4 (n ∷ [])) blocks → OnErr result (length v4 < length blocks))
      → OnErr result (r ≡ v4)
      → ChangesTo (G old (V4 n ∷ [])) (Q (V4 n) old) old (v4_then_v6 r v6) result
  changed_v4 result r = one_family 32 as_v4 (V4 n) (λ l. v4_then_v6 l v6) v4 r result own_v4 was (change.v4_told old n)
      (λ made. least_of_families change.operation old (V4 n ∷ []) v4 (n ∷ []) v6 [] r v6 (v4_then_v6 r v6) own_v4 refl
      own_v6 refl made (change.none 128 v6 sets.1) refl)
      (λ blocks all.
      let own = parts change.operation old (V4 n ∷ []) blocks all in
      let same : filter_map as_v6 blocks ≡ v6 =
      least_unique 128 (F 128 v6 []) (filter_map as_v6 blocks) v6 (rw own_v6 own.1) (change.none 128 v6 sets.1) in (
        rw own_v4 own.0,
        λ l. omega (
          arith,
          l,
          ap length same,
          ap length own_v4,
          ap length own_v6,
          length_by_family blocks,
          length_by_family old,
        ),
      ))

  pub changed_v6 : {E : Type 0} (result : Result Bool E) (r : List Network)
      → OnOk result (IsLeastList 128 (F 128 v6 (n ∷ [])) r) → IfOk result (λ told. IsTrue told ↔ P 128 n v6)
      → ((blocks : List Network) → IsLeastList 128 (F 128 v6 (n ∷ [])) blocks
      → OnErr result (length v6 < length blocks)) → OnErr result (r ≡ v6)
      → ChangesTo (G old (V6 n ∷ [])) (Q (V6 n) old) old (v4_then_v6 v4 r) result
  changed_v6 result r = one_family 128 as_v6 (V6 n) (λ l. v4_then_v6 v4 l) v6 r result own_v6 was (change.v6_told old n)
      (λ made. least_of_families change.operation old (V6 n ∷ []) v4 [] v6 (n ∷ []) v4 r (v4_then_v6 v4 r) own_v4 refl
      own_v6 refl (change.none 32 v4 sets.0) made refl)
      (λ blocks all.
      let own = parts change.operation old (V6 n ∷ []) blocks all in
      let same : filter_map as_v4 blocks ≡ v4 =
      least_unique 32 (F 32 v4 []) (filter_map as_v4 blocks) v4 (rw own_v4 own.0) (change.none 32 v4 sets.0) in (
        rw own_v6 own.1,
        λ l. omega (
          arith,
          l,
          ap length same,
          ap length own_v4,
          ap length own_v6,
          length_by_family blocks,
          length_by_family old,
        ),
      ))
