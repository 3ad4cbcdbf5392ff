-- The bytes of an address text.
use Rattle.ipnetwork_addr.proofs.Words.{ℕ, ◌+◌, ◌/◌, ◌%◌, ◌<◌, ◌≤◌, inl, inr, List, [], ◌∷◌, ◌++◌, decimal, refl, arith, cases_lt, decimal_digit, AllByRecursion, IsAddressByte, Digit, Dot, NamesV4, BeginsWithOctet}
use Rattle.ipnetwork_addr.proofs.Octets.{BeginsWithDottedOctet}
use Rattle.ipnetwork_addr.proofs.Decimals.{decimal_two, decimal_three}
use Rattle.ipnetwork_addr.proofs.Ipv4Lemmas.{reading_of}

pub AllBytes-append : (a b : List ℕ) → AllByRecursion IsAddressByte a → AllByRecursion IsAddressByte b
    → AllByRecursion IsAddressByte (a ++ b)
AllBytes-append [] b h k = k
AllBytes-append (x ∷ a) b h k = (h.0, AllBytes-append a b h.1 k)

digit : (d : ℕ) → d < 10 → IsAddressByte (48 + d)
digit d below = Digit (omega arith) (omega arith)

pub AllBytes-decimal : (n : ℕ) → n ≤ 255 → AllByRecursion IsAddressByte (decimal n)
AllBytes-decimal n bound = elim (cases_lt n 10) [
  | inl one ↦ rw (decimal_digit n one) (digit n one, tt)
  | inr ten ↦ elim (cases_lt n 100) [
    | inl two ↦ rw (decimal_two n ten two) (digit (n / 10) (omega arith), (digit (n % 10) (omega arith), tt))
    | inr hundred ↦ rw (decimal_three n hundred (omega arith))
        (digit (n / 100) (omega arith), (digit (n / 10 % 10) (omega arith), (digit (n % 10) (omega arith), tt)))
  ]
]

begins : (text : List ℕ) (n : ℕ) (rest : List ℕ) → BeginsWithOctet text n rest → AllByRecursion IsAddressByte rest
    → AllByRecursion IsAddressByte text
begins text n rest h k = rw h.split (AllBytes-append (decimal n) rest (AllBytes-decimal n h.bound) k)

begins_dotted : (text : List ℕ) (n : ℕ) (rest : List ℕ) → BeginsWithDottedOctet text n rest
    → AllByRecursion IsAddressByte rest → AllByRecursion IsAddressByte text
begins_dotted text n rest h k = rw h.dotted (Dot refl, begins h.after_dot n rest h.begins k)

pub v4_bytes : (text : List ℕ) (address : ℕ) → NamesV4 text address → AllByRecursion IsAddressByte text
v4_bytes text address h =
    let k = (reading_of text address h).chain in
    begins _ _ _ k.first (begins_dotted _ _ _ k.second (begins_dotted _ _ _ k.third (begins_dotted _ _ _ k.fourth tt)))
