-- The first dot or colon of an address text.
use Rattle.ipnetwork_addr.proofs.Words.{◌≡◌, ℕ, ◌+◌, ◌/◌, ◌%◌, ◌<◌, ◌≤◌, true, false, ◌==◌, List, [], ◌∷◌, ◌++◌, length, length-append, decimal, refl, sym, ap, ◌∙◌, append-nil, inl, inr, arith, append_assoc, cases_lt, ne_eqb, decimal_digit, digit_value, join_with_byte, AllZip, AllDigits, colon, dot, colon_first, IpAddr, V4, V6, NamesIp, NamesV4, IsGroup, IsEnded, NamesV6, two_groups}
use Rattle.ipnetwork_addr.proofs.Decimals.{decimal_two, decimal_three}
use Rattle.ipnetwork_addr.proofs.Ipv4Lemmas.{reading_of}

-- a byte that is neither a dot nor a colon is skipped
passed : (byte : ℕ) (text : List ℕ) → (byte == colon) ≡ false → (byte == dot) ≡ false
    → colon_first (byte ∷ text) ≡ colon_first text
passed byte text no_colon no_dot = rw (no_colon, no_dot) refl

digit_passed : (d : ℕ) (text : List ℕ) → d < 10 → colon_first ((48 + d) ∷ text) ≡ colon_first text
digit_passed d text small = passed (48 + d) text (ne_eqb (48 + d) colon (λ e. omega arith))
    (ne_eqb (48 + d) dot (λ e. omega arith))

decimal_passed : (n : ℕ) (text : List ℕ) → n ≤ 255 → colon_first (decimal n ++ text) ≡ colon_first text
decimal_passed n text bound = elim (cases_lt n 10) [
  | inl one ↦ rw (decimal_digit n one) (digit_passed n text one)
  | inr ten ↦ elim (cases_lt n 100) [
    | inl two ↦ rw (decimal_two n ten two) (digit_passed (n / 10) ((48 + n % 10) ∷ text) (omega arith)
        ∙ digit_passed (n % 10) text (omega arith))
    | inr hundred ↦ rw (decimal_three n hundred (omega arith))
        (digit_passed (n / 100) ((48 + n / 10 % 10) ∷ (48 + n % 10) ∷ text) (omega arith)
        ∙ digit_passed (n / 10 % 10) ((48 + n % 10) ∷ text) (omega arith) ∙ digit_passed (n % 10) text (omega arith))
  ]
]

-- in an IPv4 text, a dot comes first
pub v4_dot_first : (text rest : List ℕ) (address : ℕ) → NamesV4 text address → colon_first (text ++ rest) ≡ false
v4_dot_first text rest address h =
    let read = reading_of text address h in
    let first = read.chain.first in
    let second = read.chain.second in
    rw (first.split, second.dotted, append_assoc) (decimal_passed read.a (dot ∷ (second.after_dot ++ rest)) first.bound)

-- hex digits are skipped
hex_passed : (ds text : List ℕ) → AllDigits 16 ds → colon_first (ds ++ text) ≡ colon_first text
hex_passed [] text h = refl
hex_passed (d ∷ ds) text h =
    passed d (ds ++ text) (ne_eqb d colon (λ e. omega (arith, h.0, ap digit_value e)))
    (ne_eqb d dot (λ e. omega (arith, h.0, ap digit_value e)))
    ∙ hex_passed ds text h.1

-- a colon after a group comes first
group_colon : (part text : List ℕ) (group : ℕ) → IsGroup part group → colon_first (part ++ colon ∷ text) ≡ true
group_colon part text group h = hex_passed part (colon ∷ text) h.digits.1

-- in two or more groups joined by colons, a colon comes first
groups_colon : (parts : List (List ℕ)) (groups rest : List ℕ) → AllZip IsGroup parts groups → 2 ≤ length groups
    → colon_first (join_with_byte colon parts ++ rest) ≡ true
groups_colon [] [] rest h two = absurd (omega arith)
groups_colon [] (g ∷ groups) rest h two = absurd h
groups_colon (p ∷ parts) [] rest h two = absurd h
groups_colon (p ∷ []) (g ∷ []) rest h two = absurd (omega arith)
groups_colon (p ∷ []) (g ∷ k ∷ groups) rest h two = absurd h.1
groups_colon (p ∷ q ∷ parts) (g ∷ groups) rest h two =
    rw append_assoc (group_colon p (join_with_byte colon (q ∷ parts) ++ rest) g h.0)

-- with one or more groups before a last part, a colon comes first
dotted_colon : (parts : List (List ℕ)) (groups last rest : List ℕ) → AllZip IsGroup parts groups → 1 ≤ length groups
    → colon_first (join_with_byte colon (parts ++ last ∷ []) ++ rest) ≡ true
dotted_colon [] [] last rest h one = absurd (omega arith)
dotted_colon [] (g ∷ groups) last rest h one = absurd h
dotted_colon (p ∷ parts) [] last rest h one = absurd h
dotted_colon (p ∷ []) (g ∷ groups) last rest h one = rw append_assoc (group_colon p (last ++ rest) g h.0)
dotted_colon (p ∷ q ∷ parts) (g ∷ groups) last rest h one =
    rw append_assoc (group_colon p (join_with_byte colon (q ∷ (parts ++ last ∷ [])) ++ rest) g h.0)

-- with any number of groups before a gap, a colon comes first
gap_colon : (parts : List (List ℕ)) (groups rest : List ℕ) → AllZip IsGroup parts groups
    → colon_first (join_with_byte colon parts ++ colon ∷ rest) ≡ true
gap_colon [] groups rest h = refl
gap_colon (p ∷ parts) [] rest h = absurd h
gap_colon (p ∷ []) (g ∷ groups) rest h = group_colon p rest g h.0
gap_colon (p ∷ q ∷ parts) (g ∷ groups) rest h =
    rw append_assoc (group_colon p (join_with_byte colon (q ∷ parts) ++ colon ∷ rest) g h.0)

full_colon : (text groups rest : List ℕ) → IsEnded text groups → length groups ≡ 8 → colon_first (text ++ rest) ≡ true
full_colon text groups rest (inl h) eight = rw h.spelled (groups_colon h.parts groups rest h.named (omega arith))
full_colon text groups rest (inr h) eight =
    let count : length groups ≡ length h.front + 2 = ap length h.value ∙ length-append h.front (two_groups h.address) in
    rw h.spelled (dotted_colon h.parts h.front h.last rest h.named (omega arith))

-- in an IPv6 text, a colon comes first
pub v6_colon_first : (text rest : List ℕ) (address : ℕ) → NamesV6 text address → colon_first (text ++ rest) ≡ true
v6_colon_first text rest address (inl h) = full_colon text h.groups rest h.ended h.eight
v6_colon_first text rest address (inr h) =
    let front = h.high_groups in
    rw (h.split, front.spelled)
    (simp append_assoc (gap_colon front.parts h.high (colon ∷ (h.behind ++ rest)) front.named))

-- ---- the family that the first dot or colon leaves

different : true ≡ false → ⊥
different e = cc

-- a text with a colon first names no address if it names no IPv6 address
pub none_with_colon : (text : List ℕ) → colon_first text ≡ true → ((address : ℕ) → ¬ (NamesV6 text address))
    → (address : IpAddr) → ¬ (NamesIp text address)
none_with_colon text at_colon none (V4 address) named =
    different (sym at_colon ∙ ap colon_first (sym (append-nil text)) ∙ v4_dot_first text [] address named)
none_with_colon text at_colon none (V6 address) named = none address named

-- a text with no colon first names no address if it names no IPv4 address
pub none_without_colon : (text : List ℕ) → colon_first text ≡ false → ((address : ℕ) → ¬ (NamesV4 text address))
    → (address : IpAddr) → ¬ (NamesIp text address)
none_without_colon text no_colon none (V4 address) named = none address named
none_without_colon text no_colon none (V6 address) named =
    different (sym (v6_colon_first text [] address named) ∙ ap colon_first (append-nil text) ∙ no_colon)
