-- The octet that a text begins with.
use Rattle.ipnetwork_addr.proofs.Words.{◌≡◌, ℕ, ◌+◌, ◌/◌, ◌%◌, ◌<◌, ◌≤◌, ◌⊎◌, inl, inr, List, ◌∷◌, ◌++◌, drop, get_or, decimal, refl, sym, ap, ◌∙◌, arith, cases_lt, append_cancel_left, decimal_digit, BeginsWithOctet, dot}
use Rattle.ipnetwork_addr.proofs.Decimals.{decimal_two, decimal_three}

-- the text is a dot and an octet, followed by the rest
pub record BeginsWithDottedOctet (text : List ℕ) (octet : ℕ) (rest : List ℕ) : Type 0 where
  pub after_dot : List ℕ
  pub dotted : text ≡ dot ∷ after_dot
  pub begins : BeginsWithOctet after_dot octet rest

-- the byte is no decimal digit
abbrev NotDigit : ℕ → Type 0
NotDigit byte = (byte < 48) ⊎ (57 < byte)

-- ---- the first bytes of a text that begins with an octet

-- the text begins with the one, two or three digits of n, and no digit follows
data Bytes (text : List ℕ) (n : ℕ) : Type 0 where
  One : n < 10 → get_or text 0 0 ≡ 48 + n → NotDigit (get_or text 1 0) → Bytes text n
  Two : 10 ≤ n → n < 100 → get_or text 0 0 ≡ 48 + n / 10 → get_or text 1 0 ≡ 48 + n % 10 → NotDigit (get_or text 2 0)
      → Bytes text n
  Three : 100 ≤ n → n ≤ 255 → get_or text 0 0 ≡ 48 + n / 100 → get_or text 1 0 ≡ 48 + n / 10 % 10
      → get_or text 2 0 ≡ 48 + n % 10 → NotDigit (get_or text 3 0) → Bytes text n

bytes_of : (text : List ℕ) (n : ℕ) (rest : List ℕ) → BeginsWithOctet text n rest → Bytes text n
bytes_of text n rest h = elim (cases_lt n 10) [
  | inl one ↦
      let e : text ≡ (48 + n) ∷ rest = h.split ∙ ap (λ front. front ++ rest) (decimal_digit n one) in
      rw e (One one refl h.stops)
  | inr ten ↦ elim (cases_lt n 100) [
    | inl two ↦
        let e : text ≡ (48 + n / 10) ∷ (48 + n % 10) ∷ rest = h.split
        ∙ ap (λ front. front ++ rest) (decimal_two n ten two) in
        rw e (Two ten two refl refl h.stops)
    | inr hundred ↦
        let e : text ≡ (48 + n / 100) ∷ (48 + n / 10 % 10) ∷ (48 + n % 10) ∷ rest = h.split
        ∙ ap (λ front. front ++ rest) (decimal_three n hundred (omega (arith, h.bound))) in
        rw e (Three hundred h.bound refl refl refl h.stops)
  ]
]

-- a digit does not end an octet
not_both : (byte d : ℕ) → byte ≡ 48 + d → d < 10 → NotDigit byte → ⊥
not_both byte d e below (inl h) = omega arith
not_both byte d e below (inr h) = omega arith

-- ---- a text begins with at most one octet

same_octet : (text : List ℕ) (n m : ℕ) → Bytes text n → Bytes text m → n ≡ m
same_octet text n m (One below e stops) (One below' e' stops') = omega arith
same_octet text n m (One below e stops) (Two low' high' e' f' stops') =
    absurd (not_both _ (m % 10) f' (omega arith) stops)
same_octet text n m (One below e stops) (Three low' high' e' f' g' stops') =
    absurd (not_both _ (m / 10 % 10) f' (omega arith) stops)
same_octet text n m (Two low high e f stops) (One below' e' stops') =
    absurd (not_both _ (n % 10) f (omega arith) stops')
same_octet text n m (Two low high e f stops) (Two low' high' e' f' stops') = omega arith
same_octet text n m (Two low high e f stops) (Three low' high' e' f' g' stops') =
    absurd (not_both _ (m % 10) g' (omega arith) stops)
same_octet text n m (Three low high e f g stops) (One below' e' stops') =
    absurd (not_both _ (n / 10 % 10) f (omega arith) stops')
same_octet text n m (Three low high e f g stops) (Two low' high' e' f' stops') =
    absurd (not_both _ (n % 10) g (omega arith) stops')
same_octet text n m (Three low high e f g stops) (Three low' high' e' f' g' stops') = omega arith

pub octet_unique : (text : List ℕ) (n m : ℕ) (r s : List ℕ) → BeginsWithOctet text n r → BeginsWithOctet text m s
    → (n ≡ m) × (r ≡ s)
octet_unique text n m r s h k =
    let same : n ≡ m = same_octet text n m (bytes_of text n r h) (bytes_of text m s k) in
    (same, append_cancel_left (decimal n) r s (sym h.split ∙ k.split ∙ ap (λ x. decimal x ++ s) (sym same)))

pub dotted_octet_unique : (text : List ℕ) (n m : ℕ) (r s : List ℕ) → BeginsWithDottedOctet text n r
    → BeginsWithDottedOctet text m s → (n ≡ m) × (r ≡ s)
dotted_octet_unique text n m r s h k =
    let same : h.after_dot ≡ k.after_dot = ap (drop 1) (sym h.dotted ∙ k.dotted) in
    octet_unique k.after_dot n m r s (rw same at h.begins) k.begins
