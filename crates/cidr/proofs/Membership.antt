-- The answers about membership and about sets, for texts that name networks and addresses.
use Rattle.cidr.proofs.Words.{◌≡◌, ◌↔◌, ℕ, List, length, Bool, true, false, cond, IsTrue, codes, get_or, refl, ap, arith, v4_of, ip_of, IpAddr, Network, Member, is_member, v4_network_of, IpMember, IpSubnet, is_ip_member, is_ip_subnet, ip_network_of, IpNetwork, has4_answer, has_answer, rel_answer, Relates}
use Rattle.std.specs.Prelude.{Ok, Some}

no_truth : false ≡ true → ⊥
no_truth e = cc

-- the answer says whether the test succeeded, and therefore whether the fact holds
told_by : (t : Bool) (P : Type 0) → (IsTrue t ↔ P)
    → ((cond t (codes "yes") (codes "no") ≡ codes "yes") ↔ P) × ((cond t (codes "yes") (codes "no") ≡ codes "no") ↔ ¬ P)
told_by true P h =
    ((λ e. h.0 refl, λ p. refl), (λ e. absurd (omega (arith, ap length e)), λ np. absurd (np (h.0 refl))))
told_by false P h =
    ((λ e. absurd (omega (arith, ap length e)), λ p. absurd (no_truth (h.1 p))), (λ e p. no_truth (h.1 p), λ np. refl))

-- `has4`
pub has_members : (text word : List ℕ) (n : Network) (a : ℕ) → (IsTrue (is_member 32 n a) ↔ Member 32 n a)
    → Ok n ≡ v4_network_of text → v4_of word ≡ Some a
    → ((has4_answer text word ≡ codes "yes") ↔ Member 32 n a)
    × ((has4_answer text word ≡ codes "no") ↔ ¬ (Member 32 n a))
has_members text word n a test network address =
    rw (← network, address) (told_by (is_member 32 n a) (Member 32 n a) test)

-- `has`
pub has_ip_members : (text word : List ℕ) (n : IpNetwork) (a : IpAddr) → (IsTrue (is_ip_member n a) ↔ IpMember n a)
    → Ok n ≡ ip_network_of text → ip_of word ≡ Some a
    → ((has_answer text word ≡ codes "yes") ↔ IpMember n a) × ((has_answer text word ≡ codes "no") ↔ ¬ (IpMember n a))
unfolding has_answer
has_ip_members text word n a test network address =
    rw (← network, address) (told_by (is_ip_member n a) (IpMember n a) test)

abbrev first : List ℕ → ℕ
first text = get_or text 0 0

-- `rel`: the word says which of the two tests succeeded
relates : (s t : Bool) (a b : IpNetwork) → (IsTrue s ↔ IpSubnet a b) → (IsTrue t ↔ IpSubnet b a)
    → Relates (cond s (cond t (codes "same") (codes "inside")) (cond t (codes "around") (codes "apart"))) a b
relates true true a b h k = record {
  same = (λ e. (h.0 refl, k.0 refl), λ p. refl);
  inside = (λ e. absurd (omega (arith, ap length e)), λ p. absurd (p.1 (k.0 refl)));
  around = (λ e. absurd (omega (arith, ap length e)), λ p. absurd (p.0 (h.0 refl)));
  apart = (λ e. absurd (omega (arith, ap length e)), λ p. absurd (p.0 (h.0 refl)));
}
relates true false a b h k = record {
  same = (λ e. absurd (omega (arith, ap length e)), λ p. absurd (no_truth (k.1 p.1)));
  inside = (λ e. (h.0 refl, λ q. no_truth (k.1 q)), λ p. refl);
  around = (λ e. absurd (omega (arith, ap first e)), λ p. absurd (p.0 (h.0 refl)));
  apart = (λ e. absurd (omega (arith, ap length e)), λ p. absurd (p.0 (h.0 refl)));
}
relates false true a b h k = record {
  same = (λ e. absurd (omega (arith, ap length e)), λ p. absurd (no_truth (h.1 p.0)));
  inside = (λ e. absurd (omega (arith, ap first e)), λ p. absurd (no_truth (h.1 p.0)));
  around = (λ e. (λ q. no_truth (h.1 q), k.0 refl), λ p. refl);
  apart = (λ e. absurd (omega (arith, ap length e)), λ p. absurd (p.1 (k.0 refl)));
}
relates false false a b h k = record {
  same = (λ e. absurd (omega (arith, ap length e)), λ p. absurd (no_truth (h.1 p.0)));
  inside = (λ e. absurd (omega (arith, ap length e)), λ p. absurd (no_truth (h.1 p.0)));
  around = (λ e. absurd (omega (arith, ap length e)), λ p. absurd (no_truth (k.1 p.1)));
  apart = (λ e. (λ q. no_truth (h.1 q), λ q. no_truth (k.1 q)), λ p. refl);
}

pub relates_sets : (text other : List ℕ) (a b : IpNetwork) → (IsTrue (is_ip_subnet a b) ↔ IpSubnet a b)
    → (IsTrue (is_ip_subnet b a) ↔ IpSubnet b a)
    → Ok a ≡ ip_network_of text → Ok b ≡ ip_network_of other → Relates (rel_answer text other) a b
unfolding rel_answer
relates_sets text other a b h k first_is second_is =
    rw (← first_is, ← second_is) (relates (is_ip_subnet a b) (is_ip_subnet b a) a b h k)
