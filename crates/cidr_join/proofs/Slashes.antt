-- Texts with a byte that occurs in no address.
use Rattle.cidr_join.proofs.Words.{◌≡◌, ◌↔◌, ℕ, zero, suc, ◌<◌, List, [], ◌∷◌, length, get_or, nat_eq, arith, nat_tests, refl, subst, AllByRecursion, Option, None, Some, IsTrue, ip_of, either_of, v4_of, v6_of, NamesV4, NamesV6, IsAddressByte, Digit, UpperHex, LowerHex, Dot, Colon}

-- what holds of all bytes of a text holds at each index
at_index : (P : ℕ → Type 0) (text : List ℕ) (i : ℕ) → AllByRecursion P text → i < length text → P (get_or text i 0)
at_index P [] i h below = absurd (omega (arith, below))
at_index P (byte ∷ text) zero h below = h.0
at_index P (byte ∷ text) (suc i) h below = at_index P text i h.1 (omega (arith, below))

no_slash : ¬ (IsAddressByte 47)
no_slash (Digit low high) = omega (arith, low)
no_slash (UpperHex low high) = omega (arith, low)
no_slash (LowerHex low high) = omega (arith, low)
no_slash (Dot is) = omega (arith, is)
no_slash (Colon is) = omega (arith, is)

neither : (four six : Option ℕ) → ((a : ℕ) → ¬ (four ≡ Some a)) → ((a : ℕ) → ¬ (six ≡ Some a))
    → either_of four six ≡ None
neither (Some a) six no_four no_six = absurd (no_four a refl)
neither None (Some a) no_four no_six = absurd (no_six a refl)
neither None None no_four no_six = refl

pub is_slash : (byte : ℕ) → IsTrue (nat_eq byte 47) → byte ≡ 47
is_slash byte e = grind (arith, nat_tests)

-- a text that has a `/` is no address
pub no_address : ((text : List ℕ) (address : ℕ) → NamesV4 text address ↔ (v4_of text ≡ Some address))
    → ((text : List ℕ) (address : ℕ) → NamesV6 text address ↔ (v6_of text ≡ Some address))
    → ((text : List ℕ) (address : ℕ) → NamesV4 text address → AllByRecursion IsAddressByte text)
    → ((text : List ℕ) (address : ℕ) → NamesV6 text address → AllByRecursion IsAddressByte text)
    → (text : List ℕ) (i : ℕ) → i < length text → get_or text i 0 ≡ 47 → ip_of text ≡ None
no_address v4 v6 v4_bytes v6_bytes text i below slash = neither (v4_of text) (v6_of text)
    (λ a e. no_slash (subst IsAddressByte slash (at_index IsAddressByte text i (v4_bytes text a ((v4 text a).1 e)) below)))
    (λ a e. no_slash (subst IsAddressByte slash (at_index IsAddressByte text i (v6_bytes text a ((v6 text a).1 e)) below)))
