-- Octets of two or three digits, from the table entries of their bytes.
use Rattle.ipnetwork_addr.proofs.Words.{◌≡◌, ◌≢◌, ℕ, zero, suc, ◌+◌, ◌-◌, ◌*◌, ◌<◌, ◌≤◌, ◌==◌, ◌⊎◌, inl, inr, cond, nat_lt, Bool, true, false, List, [], ◌∷◌, length, take, drop, get_or, refl, sym, ap, ◌∙◌, subst, arith, length-drop, get_or-drop, cases_lt, cases_eq, lt-ltb, le-ltb, eq-eqb, ne_eqb, digit_value, dot, IsOctet, IsNoOctet, IsOctetEnd, HasNoOctetEnd, BeginsWithOctet, NoOctetAndDot, first_value, before_dot}
use Rattle.std.proofs.Common.{drop-drop}
use Rattle.ipnetwork_addr.proofs.OctetFronts.{Value, two_digits, three_digits, no_octet_of_two, no_octet_of_three, no_end, no_octet_before, octet_before}

-- a byte's value is at most 9, or 256 if the byte is not a digit
value_cases : (a v : ℕ) → Value a v → (v ≤ 9) ⊎ (v ≡ 256)
value_cases a v value = elim (cases_lt (digit_value a) 10) [
  | inl digit ↦ let k = value ∙ ap (λ b. cond b (digit_value a) 256) (lt-ltb (digit_value a) 10 digit) in
      inl (omega arith)
  | inr none ↦ inr (value ∙ ap (λ b. cond b (digit_value a) 256) (le-ltb (digit_value a) 10 none))
]

-- the table of first digits
abbrev tens : ℕ → ℕ
tens d = cond (nat_lt d 10) (cond (nat_lt 0 d) (d * 10) 2560) 2560

-- the table entry of a first digit: ten times its value, or 2560 if the value is 0 or 256
data First (t u : ℕ) : Type 0 where
  Digit : t ≡ u * 10 → 1 ≤ u → u ≤ 9 → First t u
  Zero : t ≡ 2560 → u ≡ 0 → First t u
  None : t ≡ 2560 → u ≡ 256 → First t u

first_cases : (d t u : ℕ) → t ≡ tens d → u ≡ cond (nat_lt d 10) d 256 → First t u
first_cases d t u first value = elim (cases_lt d 10) [
  | inl digit ↦
      let t_is : t ≡ cond (nat_lt 0 d) (d * 10) 2560 = first
      ∙ ap (λ b. cond b (cond (nat_lt 0 d) (d * 10) 2560) 2560) (lt-ltb d 10 digit) in
      let u_is : u ≡ d = value ∙ ap (λ b. cond b d 256) (lt-ltb d 10 digit) in
      elim (cases_lt 0 d) [
        | inl some ↦ let k : t ≡ d * 10 = t_is ∙ ap (λ b. cond b (d * 10) 2560) (lt-ltb 0 d some) in
            Digit (omega arith) (omega arith) (omega arith)
        | inr none ↦ Zero (t_is ∙ ap (λ b. cond b (d * 10) 2560) (le-ltb 0 d none)) (omega arith)
      ]
  | inr none ↦
      None (first ∙ ap (λ b. cond b (cond (nat_lt 0 d) (d * 10) 2560) 2560) (le-ltb d 10 none))
      (value ∙ ap (λ b. cond b d 256) (le-ltb d 10 none))
]

pub first_bound : (a t : ℕ) → t ≡ first_value a → t ≤ 2560
first_bound a t first = elim (first_cases (digit_value a) t (cond (nat_lt (digit_value a) 10) (digit_value a) 256)
    first refl) [
      | Digit is some few ↦ omega arith
      | Zero is none ↦ omega arith
      | None is none ↦ omega arith
    ]

pub digit_bound : (a v : ℕ) → Value a v → v ≤ 256
digit_bound a v value = elim (value_cases a v value) [ inl digit ↦ omega arith | inr none ↦ omega arith ]

-- ---- the byte after two digits: a dot, or a third digit

-- the factor of the digits before a byte, and the value of the byte itself
abbrev Factor : ℕ → ℕ → Type 0
Factor c f = f ≡ cond (c == dot) 1 10

abbrev Last : ℕ → ℕ → Type 0
Last c w = w ≡ cond (c == dot) 0 (cond (nat_lt (digit_value c) 10) (digit_value c) 256)

-- the third byte is a dot, or a byte with a value
data Third (c f w : ℕ) : Type 0 where
  IsDot : (c == dot) ≡ true → f ≡ 1 → w ≡ 0 → Third c f w
  NoDot : (c == dot) ≡ false → f ≡ 10 → Value c w → Third c f w

third_cases : (c f w : ℕ) → Factor c f → Last c w → Third c f w
third_cases c f w factor last = elim (cases_eq c dot) [
  | inl here ↦
      let is = eq-eqb c dot here in
      IsDot is (factor ∙ ap (λ b. cond b 1 10) is)
      (last ∙ ap (λ b. cond b 0 (cond (nat_lt (digit_value c) 10) (digit_value c) 256)) is)
  | inr none ↦
      let is = ne_eqb c dot none in
      NoDot is (factor ∙ ap (λ b. cond b 1 10) is)
      (last ∙ ap (λ b. cond b 0 (cond (nat_lt (digit_value c) 10) (digit_value c) 256)) is)
]

pub no_dot_bound : (c n : ℕ) → n ≡ cond (c == dot) 0 1 → n ≤ 1
no_dot_bound c n is = few (c == dot) n is
  where
    few : (b : Bool) (n : ℕ) → n ≡ cond b 0 1 → n ≤ 1
    few true n e = omega (arith, e)
    few false n e = omega (arith, e)

pub factor_bound : (c f : ℕ) → Factor c f → f ≤ 10
factor_bound c f factor =
    elim (third_cases c f _ factor refl) [ IsDot is one none ↦ omega arith | NoDot is ten value ↦ omega arith ]

pub last_bound : (c w : ℕ) → Last c w → w ≤ 256
last_bound c w last = elim (third_cases c _ w refl
    last) [ IsDot is one none ↦ omega arith | NoDot is ten value ↦ digit_bound c w value ]

-- ---- the octet of several digits

-- the value that the tables give
abbrev value_of : ℕ → ℕ → ℕ → ℕ → ℕ
value_of t v w more = t + v + ((t + v) * 9 + w) * more

pub several_digits : (a b c : ℕ) {t v w : ℕ} (more n : ℕ) → t ≡ first_value a → Value b v → Value c w → more ≤ 1
    → n ≡ value_of t v w more → n ≤ 255
    → IsOctet (take (2 + more) (a ∷ b ∷ c ∷ [])) n
several_digits a b c {t} {v} {w} zero n first second third few is low =
    let u : ℕ = cond (nat_lt (digit_value a) 10) (digit_value a) 256 in
    elim (first_cases (digit_value a) t u first refl) [
      | Digit tens_is some small ↦ elim (value_cases b v second) [
        | inl digit ↦ two_digits a b u v n refl second (omega arith) (omega arith) (omega arith)
        | inr none ↦ absurd (omega arith)
      ]
      | Zero is_none none ↦ absurd (omega arith)
      | None is_none none ↦ absurd (omega arith)
    ]
several_digits a b c {t} {v} {w} (suc zero) n first second third few is low =
    let u : ℕ = cond (nat_lt (digit_value a) 10) (digit_value a) 256 in
    elim (first_cases (digit_value a) t u first refl) [
      | Digit tens_is some small ↦ three_digits {u = u} refl second third (omega arith) (omega arith) low
      | Zero is_none none ↦ absurd (omega arith)
      | None is_none none ↦ absurd (omega arith)
    ]
several_digits a b c (suc (suc more)) n first second third few is low = absurd (omega arith)

pub no_octet_of_several : (a b c : ℕ) {t v w : ℕ} (more : ℕ) → t ≡ first_value a → Value b v → Value c w → more ≤ 1
    → 255 < value_of t v w more
    → IsNoOctet (take (2 + more) (a ∷ b ∷ c ∷ []))
no_octet_of_several a b c {t} {v} {w} zero first second third few high =
    let u : ℕ = cond (nat_lt (digit_value a) 10) (digit_value a) 256 in
    no_octet_of_two a b u v refl second (elim (first_cases (digit_value a) t u first refl) [
      | Digit is some small ↦ inr (omega arith)
      | Zero is none ↦ elim (value_cases b v second) [
        | inl digit ↦ inl (omega arith)
        | inr other ↦ inr (omega arith)
      ]
      | None is none ↦ inr (omega arith)
    ])
no_octet_of_several a b c {t} {v} {w} (suc zero) first second third few high =
    let u : ℕ = cond (nat_lt (digit_value a) 10) (digit_value a) 256 in
    no_octet_of_three {u = u} refl second third (elim (first_cases (digit_value a) t u first refl) [
      | Digit is some small ↦ inr (omega arith)
      | Zero is none ↦ elim (value_cases b v second) [
        | inl digit ↦ elim (value_cases c w third) [
          | inl last ↦ inl (omega arith)
          | inr other ↦ inr (omega arith)
        ]
        | inr other ↦ inr (omega arith)
      ]
      | None is none ↦ inr (omega arith)
    ])
no_octet_of_several a b c (suc (suc more)) first second third few high = absurd (omega arith)

pub digits_before_dot : (a b c : ℕ) {t v f w : ℕ} (n : ℕ) → t ≡ first_value a → Value b v → Factor c f → Last c w
    → n ≡ (t + v) * f + w → n ≤ 255
    → IsOctet (before_dot a b c) n
digits_before_dot a b c {t} {v} {f} {w} n first second factor last is low = elim (third_cases c f w factor last) [
  | IsDot here one none ↦
      let n_is : n ≡ (t + v) * 1 + 0 = is ∙ ap (λ x. (t + v) * x + w) one ∙ ap (λ x. (t + v) * 1 + x) none in
      let front : take 2 (a ∷ b ∷ c ∷ []) ≡ before_dot a b c =
      sym (ap (λ x. cond x (a ∷ b ∷ []) (a ∷ b ∷ c ∷ [])) here) in
      subst (λ (s : List ℕ). IsOctet s n) front
      (several_digits a b c 0 n first second refl (omega arith) (omega (arith, n_is)) low)
  | NoDot here ten value ↦
      let n_is : n ≡ (t + v) * 10 + w = is ∙ ap (λ x. (t + v) * x + w) ten in
      let front : take 3 (a ∷ b ∷ c ∷ []) ≡ before_dot a b c =
      sym (ap (λ x. cond x (a ∷ b ∷ []) (a ∷ b ∷ c ∷ [])) here) in
      subst (λ (s : List ℕ). IsOctet s n) front
      (several_digits a b c 1 n first second value (omega arith) (omega (arith, n_is)) low)
]

pub no_octet_before_dot : (a b c : ℕ) {t v f w : ℕ} (n : ℕ) → t ≡ first_value a → Value b v → Factor c f → Last c w
    → n ≡ (t + v) * f + w → 255 < n
    → IsNoOctet (before_dot a b c)
no_octet_before_dot a b c {t} {v} {f} {w} n first second factor last is high = elim (third_cases c f w factor last) [
  | IsDot here one none ↦
      let n_is : n ≡ (t + v) * 1 + 0 = is ∙ ap (λ x. (t + v) * x + w) one ∙ ap (λ x. (t + v) * 1 + x) none in
      let front : take 2 (a ∷ b ∷ c ∷ []) ≡ before_dot a b c =
      sym (ap (λ x. cond x (a ∷ b ∷ []) (a ∷ b ∷ c ∷ [])) here) in
      subst IsNoOctet front (no_octet_of_several a b c 0 first second refl (omega arith) (omega (arith, n_is)))
  | NoDot here ten value ↦
      let n_is : n ≡ (t + v) * 10 + w = is ∙ ap (λ x. (t + v) * x + w) ten in
      let front : take 3 (a ∷ b ∷ c ∷ []) ≡ before_dot a b c =
      sym (ap (λ x. cond x (a ∷ b ∷ []) (a ∷ b ∷ c ∷ [])) here) in
      subst IsNoOctet front (no_octet_of_several a b c 1 first second value (omega arith) (omega (arith, n_is)))
]

-- the first, second and last bytes of a text of two or three are the whole text
pub all_of : (text : List ℕ) → 2 ≤ length text → length text ≤ 3
    → take (2 + (length text - 2)) (get_or text 0 0 ∷ get_or text 1 0 ∷ get_or text (length text - 1) 0 ∷ []) ≡ text
all_of [] low high = absurd (omega arith)
all_of (x ∷ []) low high = absurd (omega arith)
all_of (x ∷ y ∷ []) low high = refl
all_of (x ∷ y ∷ z ∷ []) low high = refl
all_of (x ∷ y ∷ z ∷ u ∷ text) low high = absurd (omega arith)

-- ---- the dot after two or three bytes, if there is none after the first

more_cases : (byte more : ℕ) → more ≡ cond (byte == dot) 0 1 → ((byte ≡ dot) × (more ≡ 0)) ⊎ ((byte ≢ dot) × (more ≡ 1))
more_cases byte more is = elim (cases_eq byte dot) [
  | inl here ↦ inl (here, is ∙ ap (λ b. cond b 0 1) (eq-eqb byte dot here))
  | inr none ↦ inr (none, is ∙ ap (λ b. cond b 0 1) (ne_eqb byte dot none))
]

pub no_dot_after : (text : List ℕ) (more : ℕ) → get_or text 1 0 ≢ dot → more ≡ cond (get_or text 2 0 == dot) 0 1
    → get_or text (2 + more) 0 ≢ dot
    → HasNoOctetEnd text
no_dot_after text more first is last i low high here = elim (more_cases (get_or text 2 0) more is) [
  | inl two ↦ let at : 2 ≡ 2 + more = omega (arith, two.1) in last (ap (λ k. get_or text k 0) (sym at) ∙ two.0)
  | inr three ↦ elim (cases_eq i 1) [
    | inl one ↦ first (ap (λ k. get_or text k 0) (sym one) ∙ here)
    | inr later ↦ elim (cases_eq i 2) [
      | inl two ↦ three.0 (ap (λ k. get_or text k 0) (sym two) ∙ here)
      | inr third ↦ let at : i ≡ 2 + more = omega (arith, three.1) in last (ap (λ k. get_or text k 0) (sym at) ∙ here)
    ]
  ]
]

pub dot_after : (text : List ℕ) (more : ℕ) → 4 ≤ length text → get_or text 1 0 ≢ dot
    → more ≡ cond (get_or text 2 0 == dot) 0 1
    → get_or text (2 + more) 0 ≡ dot → IsOctetEnd text (2 + more)
dot_after text more long first is here = elim (more_cases (get_or text 2 0) more is) [
  | inl two ↦ record {
    some = omega (arith, two.1);
    few = omega (arith, two.1);
    within = omega (arith, two.1);
    here = here;
    first = λ i low below other. let one : i ≡ 1 = omega (arith, two.1) in
        first (ap (λ k. get_or text k 0) (sym one) ∙ other);
  }
  | inr three ↦ record {
    some = omega (arith, three.1);
    few = omega (arith, three.1);
    within = omega (arith, three.1);
    here = here;
    first = λ i low below other. elim (cases_eq i 1) [
      | inl one ↦ first (ap (λ k. get_or text k 0) (sym one) ∙ other)
      | inr later ↦ let at : i ≡ 2 = omega (arith, three.1) in three.0 (ap (λ k. get_or text k 0) (sym at) ∙ other)
    ];
  }
]

-- the bytes before the dot
front_of : (text : List ℕ) → 4 ≤ length text → (more : ℕ) → more ≡ cond (get_or text 2 0 == dot) 0 1
    → before_dot (get_or text 0 0) (get_or text 1 0) (get_or text 2 0) ≡ take (2 + more) text
front_of [] long more is = absurd (omega arith)
front_of (x ∷ []) long more is = absurd (omega arith)
front_of (x ∷ y ∷ []) long more is = absurd (omega arith)
front_of (x ∷ y ∷ z ∷ text) long more is = elim (more_cases z more is) [
  | inl two ↦ rw (two.1, eq-eqb z dot two.0) refl
  | inr three ↦ rw (three.1, ne_eqb z dot three.0) refl
]

-- ---- an octet from a position on

byte_at : (text : List ℕ) (at i j : ℕ) → at + i ≡ j → get_or (drop at text) i 0 ≡ get_or text j 0
byte_at text at i j e = get_or-drop at text i 0 ∙ ap (λ k. get_or text k 0) e

-- what is known about the three bytes at a position
record Front (text : List ℕ) (at more : ℕ) : Type 0 where
  first : get_or (drop at text) 1 0 ≢ dot
  is : more ≡ cond (get_or (drop at text) 2 0 == dot) 0 1

front_at : (text : List ℕ) (at more : ℕ) → get_or text (at + 1) 0 ≢ dot
    → more ≡ cond (get_or text (at + 2) 0 == dot) 0 1 → Front text at more
front_at text at more first is = record {
  first = λ here. first (sym (byte_at text at 1 (at + 1) refl) ∙ here);
  is = is ∙ ap (λ b. cond (b == dot) 0 1) (sym (byte_at text at 2 (at + 2) refl));
}

pub no_octet_at : (text : List ℕ) (at more : ℕ) → get_or text (at + 1) 0 ≢ dot
    → more ≡ cond (get_or text (at + 2) 0 == dot) 0 1
    → get_or text (at + 2 + more) 0 ≢ dot → NoOctetAndDot (drop at text)
no_octet_at text at more first is last =
    let front = front_at text at more first is in
    no_end (drop at text) (no_dot_after (drop at text) more front.first front.is (λ here.
    last (sym (byte_at text at (2 + more) (at + 2 + more) (omega arith)) ∙ here)))

-- the position of the dot
dotted_at : (text : List ℕ) (at more : ℕ) → 4 ≤ length text - at → get_or text (at + 1) 0 ≢ dot
    → more ≡ cond (get_or text (at + 2) 0 == dot) 0 1
    → get_or text (at + 2 + more) 0 ≡ dot
    → IsOctetEnd (drop at text) (2 + more)
    × (before_dot (get_or text at 0) (get_or text (at + 1) 0) (get_or text (at + 2) 0) ≡ take (2 + more) (drop at text))
dotted_at text at more long first is here =
    let front = front_at text at more first is in
    let enough : 4 ≤ length (drop at text) = omega (arith, length-drop at text) in
    let zeroth : get_or (drop at text) 0 0 ≡ get_or text at 0 = byte_at text at 0 at (omega arith) in (
      dot_after (drop at text) more enough front.first front.is
          (byte_at text at (2 + more) (at + 2 + more) (omega arith) ∙ here),
      sym (ap (λ b. before_dot b (get_or text (at + 1) 0) (get_or text (at + 2) 0)) zeroth)
          ∙ sym (ap (λ b. before_dot (get_or (drop at text) 0 0) b (get_or text (at + 2) 0))
          (byte_at text at 1 (at + 1) refl))
          ∙ sym (ap (λ b. before_dot (get_or (drop at text) 0 0) (get_or (drop at text) 1 0) b)
          (byte_at text at 2 (at + 2) refl))
          ∙ front_of (drop at text) enough more front.is,
    )

pub no_octet_before_at : (text : List ℕ) (at more : ℕ) → 4 ≤ length text - at → get_or text (at + 1) 0 ≢ dot
    → more ≡ cond (get_or text (at + 2) 0 == dot) 0 1
    → get_or text (at + 2 + more) 0 ≡ dot
    → IsNoOctet (before_dot (get_or text at 0) (get_or text (at + 1) 0) (get_or text (at + 2) 0))
    → NoOctetAndDot (drop at text)
no_octet_before_at text at more long first is here none =
    let k = dotted_at text at more long first is here in
    no_octet_before (drop at text) (2 + more) k.0 (subst IsNoOctet k.1 none)

-- the octet before an end, and the text after the dot
pub behind_end : (text : List ℕ) (at end n next : ℕ) → IsOctetEnd (drop at text) end → at + (end + 1) ≡ next
    → IsOctet (take end (drop at text)) n
    → BeginsWithOctet (drop at text) n (dot ∷ drop next text)
behind_end text at end n next found is octet =
    subst (λ (rest : List ℕ). BeginsWithOctet (drop at text) n (dot ∷ rest))
    (drop-drop (end + 1) at text ∙ ap (λ k. drop k text) is)
    (octet_before (drop at text) end n found octet)

pub octet_before_at : (text : List ℕ) (at more n : ℕ) → 4 ≤ length text - at → get_or text (at + 1) 0 ≢ dot
    → more ≡ cond (get_or text (at + 2) 0 == dot) 0 1
    → get_or text (at + 2 + more) 0 ≡ dot
    → IsOctet (before_dot (get_or text at 0) (get_or text (at + 1) 0) (get_or text (at + 2) 0)) n
    → BeginsWithOctet (drop at text) n (dot ∷ drop (at + 2 + more + 1) text)
octet_before_at text at more n long first is here octet =
    let k = dotted_at text at more long first is here in
    behind_end text at (2 + more) n (at + 2 + more + 1) k.0 (omega arith)
    (subst (λ (s : List ℕ). IsOctet s n) k.1 octet)

-- the position after the dot is within the text
pub behind_within : (text : List ℕ) (at end : ℕ) → at ≤ length text → IsOctetEnd (drop at text) end
    → at + end + 1 ≤ length text
behind_within text at end within found = omega (arith, found.within, length-drop at text)
