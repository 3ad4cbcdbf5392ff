-- Octets that are whole texts, and octets before a dot.
use Rattle.ipnetwork_addr.proofs.Words.{◌≡◌, ◌≢◌, ℕ, ◌+◌, ◌*◌, ◌<◌, ◌≤◌, ◌⊎◌, inl, inr, cond, nat_lt, List, [], ◌∷◌, ◌++◌, length, take, drop, get_or, decimal, refl, sym, ap, ◌∙◌, subst, arith, lit≤, append-nil, take-append-drop, cases_lt, lt-ltb, le-ltb, decimal_is_IsNumeral, length-decimal-le, drop_more, get_or_at, get_or-take, take_at, digit_at, digit_from_value, digit_value_digit, digit_value, dot, IsOctet, IsPlainOctet, NamesV4, NamesNoV4, IsNoOctet, IsOctetEnd, HasNoOctetEnd, BeginsWithOctet, NoOctetAndDot}
use Rattle.ipnetwork_addr.proofs.Octets.{BeginsWithDottedOctet}
use Rattle.ipnetwork_addr.proofs.Ipv4Lemmas.{number_of, names_four, reading_of, same_after_a, same_after_b, same_after_c}
use Rattle.ipnetwork_addr.proofs.PlainOctet.{plain_from_octet, octet_from_plain}

-- ---- an octet from the values of its bytes, 256 for a byte that is not a digit

-- the value of a byte: 256 if it is not a digit
abbrev pub Value : ℕ → ℕ → Type 0
Value byte value = value ≡ cond (nat_lt (digit_value byte) 10) (digit_value byte) 256

-- a value below 256 is that of a digit
is_digit : (a v : ℕ) → Value a v → v < 256 → (digit_value a < 10) × (v ≡ digit_value a)
is_digit a v value small = elim (cases_lt (digit_value a) 10) [
  | inl digit ↦ (digit, value ∙ ap (λ b. cond b (digit_value a) 256) (lt-ltb (digit_value a) 10 digit))
  | inr none ↦ let k = value ∙ ap (λ b. cond b (digit_value a) 256) (le-ltb (digit_value a) 10 none) in
      absurd (omega arith)
]

-- the value of a digit
of_digit : (a v : ℕ) → Value a v → digit_value a < 10 → v ≡ digit_value a
of_digit a v value digit = value ∙ ap (λ b. cond b (digit_value a) 256) (lt-ltb (digit_value a) 10 digit)

-- the digit with the value 0
is_zero : (a : ℕ) → digit_value a < 10 → digit_value a ≡ 0 → a ≡ 48
is_zero a digit zero = let range = digit_from_value a digit in omega (arith, digit_value_digit a range)

-- the value of `0`
zero_value : (a v : ℕ) → Value a v → a ≡ 48 → v ≡ 0
zero_value a v value zero = value ∙ ap (λ x. cond (nat_lt (digit_value x) 10) (digit_value x) 256) zero

pub one_digit : (a v : ℕ) → Value a v → v ≤ 9 → IsOctet (a ∷ []) v
one_digit a v value small =
    let d = is_digit a v value (omega arith) in
    octet_from_plain (a ∷ []) v (record {
      digits = (lit≤ tt, (d.0, tt));
      short = lit≤ tt;
      value = omega (arith, d.1);
      bound = omega arith;
      no_leading_zero = λ zero. refl;
    })

pub two_digits : (a b v w n : ℕ) → Value a v → Value b w → n ≡ v * 10 + w → 10 ≤ n → n ≤ 99 → IsOctet (a ∷ b ∷ []) n
two_digits a b v w n first second number low high =
    let d = is_digit a v first (omega arith) in
    let e = is_digit b w second (omega arith) in
    octet_from_plain (a ∷ b ∷ []) n (record {
      digits = (lit≤ tt, (d.0, (e.0, tt)));
      short = lit≤ tt;
      value = omega (arith, d.1, e.1);
      bound = omega arith;
      no_leading_zero = λ zero. let k = zero_value a v first zero in absurd (omega (arith, e.0, e.1));
    })

pub three_digits : {a b c u v w n : ℕ} → Value a u → Value b v → Value c w → n ≡ u * 100 + v * 10 + w → 100 ≤ n
    → n ≤ 255 → IsOctet (a ∷ b ∷ c ∷ []) n
three_digits {a} {b} {c} {u} {v} {w} {n} first second third number low high =
    let d = is_digit a u first (omega arith) in
    let e = is_digit b v second (omega arith) in
    let f = is_digit c w third (omega arith) in
    octet_from_plain (a ∷ b ∷ c ∷ []) n (record {
      digits = (lit≤ tt, (d.0, (e.0, (f.0, tt))));
      short = lit≤ tt;
      value = omega (arith, d.1, e.1, f.1);
      bound = high;
      no_leading_zero = λ zero. let k = zero_value a u first zero in absurd (omega (arith, e.0, e.1, f.0, f.1));
    })

pub no_octet_of_one : (a v : ℕ) → Value a v → 9 < v → IsNoOctet (a ∷ [])
no_octet_of_one a v value high n h =
    let plain = plain_from_octet (a ∷ []) n h in
    omega (arith, of_digit a v value plain.digits.1.0, plain.digits.1.0)

pub no_octet_of_two : (a b v w : ℕ) → Value a v → Value b w → (v * 10 + w < 10) ⊎ (99 < v * 10 + w)
    → IsNoOctet (a ∷ b ∷ [])
no_octet_of_two a b v w first second wrong n h = go wrong
  where
    plain : IsPlainOctet (a ∷ b ∷ []) n
    plain = plain_from_octet (a ∷ b ∷ []) n h

    d : v ≡ digit_value a
    d = of_digit a v first plain.digits.1.0

    go : (v * 10 + w < 10) ⊎ (99 < v * 10 + w) → ⊥
    go (inl low) = let k = plain.no_leading_zero (is_zero a plain.digits.1.0 (omega (arith, d))) in omega arith
    go (inr high) = omega (arith, d, of_digit b w second plain.digits.1.1.0, plain.digits.1.0, plain.digits.1.1.0)

pub no_octet_of_three : {a b c u v w : ℕ} → Value a u → Value b v → Value c w → (u * 100 + v * 10 + w < 100)
    ⊎ (255 < u * 100 + v * 10 + w) → IsNoOctet (a ∷ b ∷ c ∷ [])
no_octet_of_three {a} {b} {c} {u} {v} {w} first second third wrong n h = go wrong
  where
    plain : IsPlainOctet (a ∷ b ∷ c ∷ []) n
    plain = plain_from_octet (a ∷ b ∷ c ∷ []) n h

    d : u ≡ digit_value a
    d = of_digit a u first plain.digits.1.0

    go : (u * 100 + v * 10 + w < 100) ⊎ (255 < u * 100 + v * 10 + w) → ⊥
    go (inl low) = let k = plain.no_leading_zero (is_zero a plain.digits.1.0 (omega (arith, d))) in omega arith
    go (inr high) = omega (
      arith,
      d,
      of_digit b v second plain.digits.1.1.0,
      of_digit c w third plain.digits.1.1.1.0,
      plain.value,
      plain.bound,
    )

pub no_octet_of_none : (text : List ℕ) → length text < 1 → IsNoOctet text
no_octet_of_none text none n h = let plain = plain_from_octet text n h in omega (arith, none, plain.digits.0)

pub no_octet_of_four : (text : List ℕ) → 4 ≤ length text → IsNoOctet text
no_octet_of_four text long n h = let plain = plain_from_octet text n h in omega (arith, long, plain.short)

-- ---- an octet before a dot

-- a text that begins with an octet and a dot, which comes after one to three digits
record Ending (text : List ℕ) (n : ℕ) (rest : List ℕ) (end : ℕ) : Type 0 where
  some : 1 ≤ end
  few : end ≤ 3
  dotted : get_or text end 0 ≡ dot
  front : take end text ≡ decimal n
  digits : (i : ℕ) → i < end → get_or text i 0 ≢ dot

ending : (text : List ℕ) (n : ℕ) (rest : List ℕ) → BeginsWithOctet text n (dot ∷ rest)
    → Ending text n rest (length (decimal n))
ending text n rest h =
    let (numeral, value) = decimal_is_IsNumeral n (omega (arith, h.bound)) in
    let front : take (length (decimal n)) text ≡ decimal n = ap (take (length (decimal n))) h.split
    ∙ take_at (decimal n) (dot ∷ rest) (length (decimal n)) refl in
    record {
      some = numeral.0;
      few = length-decimal-le 3 n (omega arith) (omega (arith, h.bound)) (omega (arith, h.bound));
      dotted = ap (λ t. get_or t (length (decimal n)) 0) h.split
          ∙ get_or_at (decimal n) dot rest 0 (length (decimal n)) refl;
      front = front;
      digits = λ i below here.
          let digit = digit_at (decimal n) i numeral.1 below in
          let same : get_or (decimal n) i 0 ≡ get_or text i 0 = ap (λ t. get_or t i 0) (sym front)
          ∙ get_or-take (length (decimal n)) text i 0 below in
          omega (arith, digit.0, digit.1, same, here);
    }

pub no_end : (text : List ℕ) → HasNoOctetEnd text → NoOctetAndDot text
no_end text none n rest h = let e = ending text n rest h in none (length (decimal n)) e.some e.few e.dotted

pub no_octet_before : (text : List ℕ) (end : ℕ) → IsOctetEnd text end → IsNoOctet (take end text) → NoOctetAndDot text
no_octet_before text end at none n rest h =
    let e = ending text n rest h in
    elim (cases_lt end (length (decimal n))) [
      | inl before ↦ e.digits end before at.here
      | inr within ↦ elim (cases_lt (length (decimal n)) end) [
        | inl later ↦ at.first (length (decimal n)) e.some later e.dotted
        | inr past ↦
            let same : length (decimal n) ≡ end = omega arith in
            none n (h.bound, ap (λ i. take i text) (sym same) ∙ e.front)
      ]
    ]

pub octet_before : (text : List ℕ) (end n : ℕ) → IsOctetEnd text end → IsOctet (take end text) n
    → BeginsWithOctet text n (dot ∷ drop (end + 1) text)
octet_before text end n at h = record {
  bound = h.0;
  split =
      sym (take-append-drop end text)
      ∙ ap (λ t. take end text ++ t) (drop_more text end 0 at.within ∙ ap (λ b. b ∷ drop (end + 1) text) at.here)
      ∙ ap (λ t. t ++ dot ∷ drop (end + 1) text) h.1;
  stops = inl (lit≤ tt);
}

-- ---- four octets

dotted : (text : List ℕ) (n : ℕ) (rest : List ℕ) → BeginsWithOctet text n rest
    → BeginsWithDottedOctet (dot ∷ text) n rest
dotted text n rest h = record { after_dot = text; dotted = refl; begins = h }

whole : (text : List ℕ) (n : ℕ) → IsOctet text n → BeginsWithOctet text n []
whole text n h = record { bound = h.0; split = h.1 ∙ sym (append-nil (decimal n)); stops = inl (lit≤ tt) }

pub four_octets : {text : List ℕ} {a b c d : ℕ} {r s t : List ℕ} → BeginsWithOctet text a (dot ∷ r)
    → BeginsWithOctet r b (dot ∷ s) → BeginsWithOctet s c (dot ∷ t) → IsOctet t d → NamesV4 text (number_of a b c d)
four_octets {text} {a} {b} {c} {d} {r} {s} {t} first second third fourth =
    names_four first (dotted r b (dot ∷ s) second) (dotted s c (dot ∷ t) third) (dotted t d [] (whole t d fourth)) refl

-- the octet after a dot
behind : (before text : List ℕ) (n : ℕ) (after : List ℕ) → before ≡ dot ∷ text → BeginsWithDottedOctet before n after
    → BeginsWithOctet text n after
behind before text n after e h = subst (λ t. BeginsWithOctet t n after) (ap (drop 1) (sym h.dotted ∙ e)) h.begins

-- the octet before a dot at the front of the rest
before : (text : List ℕ) (n : ℕ) (rest after : List ℕ) → rest ≡ dot ∷ after → BeginsWithOctet text n rest
    → BeginsWithOctet text n (dot ∷ after)
before text n rest after e h = subst (BeginsWithOctet text n) e h

pub no_first : (text : List ℕ) → NoOctetAndDot text → NamesNoV4 text
no_first text none address h =
    let k = (reading_of text address h).chain in
    none _ k.second.after_dot (before text _ k.after_a k.second.after_dot k.second.dotted k.first)

pub no_second : {text : List ℕ} {a : ℕ} {r : List ℕ} → BeginsWithOctet text a (dot ∷ r) → NoOctetAndDot r
    → NamesNoV4 text
no_second {text} {a} {r} first none address h =
    let k = (reading_of text address h).chain in
    let second = behind k.after_a r _ k.after_b (same_after_a first k) k.second in
    none _ k.third.after_dot (before r _ k.after_b k.third.after_dot k.third.dotted second)

pub no_third : {text : List ℕ} {a b : ℕ} {r s : List ℕ} → BeginsWithOctet text a (dot ∷ r)
    → BeginsWithOctet r b (dot ∷ s) → NoOctetAndDot s → NamesNoV4 text
no_third {text} {a} {b} {r} {s} first second none address h =
    let k = (reading_of text address h).chain in
    let third = behind k.after_b s _ k.after_c (same_after_b first (dotted r b (dot ∷ s) second) k) k.third in
    none _ k.fourth.after_dot (before s _ k.after_c k.fourth.after_dot k.fourth.dotted third)

pub no_fourth : {text : List ℕ} {a b c : ℕ} {r s t : List ℕ} → BeginsWithOctet text a (dot ∷ r)
    → BeginsWithOctet r b (dot ∷ s) → BeginsWithOctet s c (dot ∷ t) → IsNoOctet t → NamesNoV4 text
no_fourth {text} {a} {b} {c} {r} {s} {t} first second third none address h =
    let k = (reading_of text address h).chain in
    let fourth = behind k.after_c t _ []
    (same_after_c first (dotted r b (dot ∷ s) second) (dotted s c (dot ∷ t) third) k) k.fourth in
    none _ (fourth.bound, fourth.split ∙ append-nil (decimal _))
