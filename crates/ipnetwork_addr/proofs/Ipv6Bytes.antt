-- The bytes of an IPv6 text.
use Rattle.ipnetwork_addr.proofs.Words.{ℕ, ◌-◌, ◌<◌, List, [], ◌∷◌, ◌++◌, refl, sym, subst, inl, inr, arith, cond_both, ltb-true, ltb-false, digit_value, join_with_byte, AllZip, AllByRecursion, AllDigits, colon, IsAddressByte, Digit, UpperHex, LowerHex, Colon, IsGroup, IsPlain, IsEnded, NamesV6}
use Rattle.std.specs.Prelude.{nat_lt}
use Rattle.ipnetwork_addr.proofs.AddressBytes.{AllBytes-append, v4_bytes}

hex_byte : (c : ℕ) → digit_value c < 16 → IsAddressByte c
hex_byte c =
    cond_both (nat_lt c 48) 36 _ (λ v. v < 16 → IsAddressByte c) (λ _ h. absurd (omega (arith, h)))
    (λ a. cond_both (nat_lt c 58) (c - 48) _ (λ v. v < 16 → IsAddressByte c)
    (λ b h. Digit (ltb-false c 48 a) (let k = ltb-true c 58 b in omega arith))
    (λ b. cond_both (nat_lt c 65) 36 _ (λ v. v < 16 → IsAddressByte c) (λ _ h. absurd (omega (arith, h)))
    (λ d. cond_both (nat_lt c 91) (c - 55) _ (λ v. v < 16 → IsAddressByte c)
    (λ _ h. UpperHex (ltb-false c 65 d) (omega (arith, h)))
    (λ e. cond_both (nat_lt c 97) 36 _ (λ v. v < 16 → IsAddressByte c) (λ _ h. absurd (omega (arith, h)))
    (λ f. cond_both (nat_lt c 123) (c - 87) _ (λ v. v < 16 → IsAddressByte c)
    (λ _ h. LowerHex (ltb-false c 97 f) (omega (arith, h)))
    (λ _ h. absurd (omega (arith, h))))))))

hex_bytes : (ds : List ℕ) → AllDigits 16 ds → AllByRecursion IsAddressByte ds
hex_bytes [] h = tt
hex_bytes (d ∷ ds) h = (hex_byte d h.0, hex_bytes ds h.1)

plain_bytes : (parts : List (List ℕ)) (groups : List ℕ) → AllZip IsGroup parts groups
    → AllByRecursion IsAddressByte (join_with_byte colon parts)
plain_bytes [] groups h = tt
plain_bytes (p ∷ parts) [] h = absurd h
plain_bytes (p ∷ []) (g ∷ groups) h = hex_bytes p h.0.digits.1
plain_bytes (p ∷ q ∷ parts) (g ∷ groups) h =
    AllBytes-append p (colon ∷ join_with_byte colon (q ∷ parts)) (hex_bytes p h.0.digits.1)
    (Colon refl, plain_bytes (q ∷ parts) groups h.1)

dotted_bytes : (parts : List (List ℕ)) (groups last : List ℕ) → AllZip IsGroup parts groups
    → AllByRecursion IsAddressByte last → AllByRecursion IsAddressByte (join_with_byte colon (parts ++ last ∷ []))
dotted_bytes [] groups last h k = k
dotted_bytes (p ∷ parts) [] last h k = absurd h
dotted_bytes (p ∷ []) (g ∷ groups) last h k =
    AllBytes-append p (colon ∷ last) (hex_bytes p h.0.digits.1) (Colon refl, k)
dotted_bytes (p ∷ q ∷ parts) (g ∷ groups) last h k =
    AllBytes-append p (colon ∷ join_with_byte colon (q ∷ (parts ++ last ∷ []))) (hex_bytes p h.0.digits.1)
    (Colon refl, dotted_bytes (q ∷ parts) groups last h.1 k)

is_plain_bytes : (text groups : List ℕ) → IsPlain text groups → AllByRecursion IsAddressByte text
is_plain_bytes text groups h = subst (AllByRecursion IsAddressByte) (sym h.spelled) (plain_bytes h.parts groups h.named)

is_ended_bytes : (text groups : List ℕ) → IsEnded text groups → AllByRecursion IsAddressByte text
is_ended_bytes text groups (inl h) = is_plain_bytes text groups h
is_ended_bytes text groups (inr h) = subst (AllByRecursion IsAddressByte) (sym h.spelled)
    (dotted_bytes h.parts h.front h.last h.named (v4_bytes h.last h.address h.dotted))

pub v6_bytes : (text : List ℕ) (address : ℕ) → NamesV6 text address → AllByRecursion IsAddressByte text
v6_bytes text address (inl h) = is_ended_bytes text h.groups h.ended
v6_bytes text address (inr h) =
    subst (AllByRecursion IsAddressByte) (sym h.split)
    (AllBytes-append (h.before ++ colon ∷ colon ∷ []) h.behind
    (AllBytes-append h.before (colon ∷ colon ∷ []) (is_plain_bytes h.before h.high h.high_groups)
    (Colon refl, (Colon refl, tt)))
    (is_ended_bytes h.behind h.low h.low_groups))
