-- Queries on IPv4 first and then on IPv6, and the number of blocks of both families together.
use Rattle.ipnetwork_sets.proofs.Words.{◌≡◌, ◌↔◌, ℕ, ◌+◌, Bool, true, false, true≢false, IsTrue, sym, refl, ap, ◌∙◌, List, [], ◌∷◌, map, length, arith, map-id, filter_map, Network, IpNetwork, V4, V6, as_v4, as_v6}
use Rattle.ipnetwork_sets.proofs.IpFamilies.{none_of_either}
use Rattle.ipnetwork_sets.proofs.IpFamilySets.{IsQuestion}

module _ {F : ℕ → List Network → List Network → Type 0} {Q : List IpNetwork → List IpNetwork → Type 0}
    (question : IsQuestion F Q) where
  -- a query that holds for IPv4 holds for both families exactly if it holds for IPv6
  pub asked_of_both : {a b : List IpNetwork} {a4 b4 a6 b6 : List Network} {p q : Bool}
      → a4 ≡ filter_map as_v4 a → b4 ≡ filter_map as_v4 b → a6 ≡ filter_map as_v6 a → b6 ≡ filter_map as_v6 b
      → IsTrue p ↔ F 32 a4 b4 → p ≡ true → IsTrue q ↔ F 128 a6 b6 → IsTrue q ↔ Q a b
  asked_of_both {a} {b} ea4 eb4 ea6 eb6 first true_of_v4 second =
      let front = rw (ea4, eb4) at first in
      let back = rw (ea6, eb6) at second in
      ((λ t. (question.by_family a b).0 (front.0 true_of_v4, back.0 t)), (λ h. back.1 ((question.by_family a b).1 h).1))

  -- a query that does not hold for IPv4 does not hold for both families
  pub refused_by_v4 : {a b : List IpNetwork} {a4 b4 : List Network} {p : Bool} → a4 ≡ filter_map as_v4 a
      → b4 ≡ filter_map as_v4 b
      → IsTrue p ↔ F 32 a4 b4 → p ≡ false → IsTrue p ↔ Q a b
  refused_by_v4 {a} {b} ea4 eb4 first false_of_v4 =
      let front = rw (ea4, eb4) at first in
      ((λ t. absurd (true≢false (sym t ∙ false_of_v4))), (λ h. front.1 ((question.by_family a b).1 h).0))

-- the query whether the first set has no blocks
pub no_blocks : IsQuestion (λ w a b. a ≡ []) (λ a b. a ≡ [])
no_blocks = record {
  by_family =
      λ a b. ((λ h. none_of_either a h.0 h.1), (λ e. (ap (filter_map as_v4) e, ap (filter_map as_v6) e)));
}

-- ---- the number of blocks

pub length_by_family : (ns : List IpNetwork) → length (filter_map as_v4 ns) + length (filter_map as_v6 ns) ≡ length ns
length_by_family [] = refl
length_by_family (V4 n ∷ ns) = let told = length_by_family ns in omega (arith, told)
length_by_family (V6 n ∷ ns) = let told = length_by_family ns in omega (arith, told)

-- the number of blocks of two lists that are those of each family
pub length_of_both : (ns : List IpNetwork) (a b x y : List Network) → map (λ n. n) a ≡ x → x ≡ filter_map as_v4 ns
    → map (λ n. n) b ≡ y → y ≡ filter_map as_v6 ns
    → length a + length b ≡ length ns
length_of_both ns a b x y ea ex eb ey =
    ap (λ (l : List Network). length l + length b) (sym (map-id a) ∙ ea ∙ ex)
    ∙ ap (λ (l : List Network). length (filter_map as_v4 ns) + length l) (sym (map-id b) ∙ eb ∙ ey)
    ∙ length_by_family ns
