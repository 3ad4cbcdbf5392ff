-- The order of two pairs of numbers by one number for each pair.
use Rattle.ipnetwork_c.proofs.Words.{◌≡◌, ℕ, ◌+◌, ◌*◌, ◌<◌, refl, sym, arith, nat_cmp, nat_cmp_is, ordering_then, MatchOrdering, Ordering, Less, Equal, Greater, ranked}

ordered : (a b p q : ℕ) (o r : Ordering) → p < 256 → q < 256 → MatchOrdering o (a < b) (a ≡ b) (b < a)
    → MatchOrdering r (p < q) (p ≡ q) (q < p)
    → MatchOrdering (ordering_then o r) (a * 256 + p < b * 256 + q) (a * 256 + p ≡ b * 256 + q)
    (b * 256 + q < a * 256 + p)
ordered a b p q Less r f g h k = omega arith
ordered a b p q Greater r f g h k = omega arith
ordered a b p q Equal Less f g h k = omega arith
ordered a b p q Equal Equal f g h k = omega arith
ordered a b p q Equal Greater f g h k = omega arith

-- the second number breaks the ties of the first
pub keyed : (a b p q : ℕ) → p < 256 → q < 256
    → nat_cmp (a * 256 + p) (b * 256 + q) ≡ ordering_then (nat_cmp a b) (nat_cmp p q)
keyed a b p q f g = sym (nat_cmp_is (a * 256 + p) (b * 256 + q) (ordering_then (nat_cmp a b) (nat_cmp p q))
    (ordered a b p q (nat_cmp a b) (nat_cmp p q) f g (ranked a b (nat_cmp a b) refl) (ranked p q (nat_cmp p q) refl)))
