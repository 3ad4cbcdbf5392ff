-- Lists of the caller that have too little room.
use Rattle.ipnetwork_sets.proofs.Words.{◌≡◌, ◌⊎◌, inl, inr, ⊎_elim, ℕ, suc, ◌+◌, ◌<◌, ◌≤◌, arith, sym, ap, subst, ◌∙◌, List, [], ◌∷◌, ◌++◌, length, get_or, take, drop, Option, take-append-drop, filter_map-append, take-suc, filter_map, Network, IpNetwork, as_v4, as_v6, v4_then_v6, HasTooLittleRoom, v4_own, v6_own}
use Rattle.std.proofs.Common.{length-append}

-- the list of one family has too little room for its blocks
pub too_little_v4 : (v4 v6 : List Network) (a b : ℕ) (blocks : List IpNetwork) → blocks ≡ v4_then_v6 v4 v6
    → a < length v4 → HasTooLittleRoom a b blocks
too_little_v4 v4 v6 a b blocks e l = inl (subst (λ (ns : List Network). a < length ns) (v4_own blocks v4 v6 e) l)

pub too_little_v6 : (v4 v6 : List Network) (a b : ℕ) (blocks : List IpNetwork) → blocks ≡ v4_then_v6 v4 v6
    → b < length v6 → HasTooLittleRoom a b blocks
too_little_v6 v4 v6 a b blocks e l = inr (subst (λ (ns : List Network). b < length ns) (v6_own blocks v4 v6 e) l)

-- the networks of a family among the first `i`, and one more, are no more than those among all
so_far : (own : IpNetwork → Option Network) (ns : List IpNetwork) (i : ℕ) (n : IpNetwork) → i < length ns
    → get_or ns i n ≡ n
    → length (filter_map own (take i ns)) + length (filter_map own (n ∷ [])) ≤ length (filter_map own ns)
so_far own ns i n l is =
    let more : take (suc i) ns ≡ take i ns ++ n ∷ [] = take-suc ns i n l ∙ ap (λ y. take i ns ++ y ∷ []) is in
    let front : length (filter_map own (take (suc i) ns)) ≡ length
    (filter_map own (take i ns) ++ filter_map own (n ∷ [])) =
    ap length (ap (filter_map own) more ∙ filter_map-append own (take i ns) (n ∷ [])) in
    let all : length (filter_map own ns) ≡ length (filter_map own (take (suc i) ns)
    ++ filter_map own (drop (suc i) ns)) =
    ap length (ap (filter_map own) (sym (take-append-drop (suc i) ns))
    ∙ filter_map-append own (take (suc i) ns) (drop (suc i) ns)) in
    omega (
      arith,
      front,
      all,
      length-append (filter_map own (take i ns)) (filter_map own (n ∷ [])),
      length-append (filter_map own (take (suc i) ns)) (filter_map own (drop (suc i) ns)),
    )

-- a list with too little room for one more network has too little for all
pub too_little_for_all : (ns : List IpNetwork) (i : ℕ) (n : IpNetwork) (v4 v6 : List Network) (a b c4 c6 k4 k6 : ℕ)
    → i < length ns → get_or ns i n ≡ n
    → v4 ≡ filter_map as_v4 (take i ns) → v6 ≡ filter_map as_v6 (take i ns) → k4 ≡ length v4 → k6 ≡ length v6
    → a ≤ c4 → b ≤ c6
    → (c4 < k4 + length (filter_map as_v4 (n ∷ []))) ⊎ (c6 < k6 + length (filter_map as_v6 (n ∷ [])))
    → HasTooLittleRoom a b ns
too_little_for_all ns i n v4 v6 a b c4 c6 k4 k6 l is e4 e6 has4 has6 le4 le6 full =
    ⊎_elim
    (λ (f : c4 < k4 + length (filter_map as_v4 (n ∷ []))). inl
    (omega (arith, f, le4, has4, ap length e4, so_far as_v4 ns i n l is)))
    (λ (f : c6 < k6 + length (filter_map as_v6 (n ∷ []))). inr
    (omega (arith, f, le6, has6, ap length e6, so_far as_v6 ns i n l is)))
    full
