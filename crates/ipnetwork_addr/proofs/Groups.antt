-- The group that a text begins with.
use Rattle.ipnetwork_addr.proofs.Words.{◌≡◌, ℕ, ◌+◌, ◌*◌, ◌^◌, ◌<◌, ◌≤◌, List, [], ◌∷◌, ◌++◌, length, get_or, drop, refl, sym, ap, ◌∙◌, subst, arith, lit≤, pow-le-pow_right, digits_value-lt, digit_value, AllDigits, digits_value, NoHex, BeginsWithHex, BeginsWithGroup, NoGroup}

below : {text : List ℕ} {d : ℕ} {r : List ℕ} → (h : BeginsWithHex text d r) → digit_value h.byte < 16
below h = subst (λ (v : ℕ). v < 16) (sym h.value) h.below_sixteen

-- ---- groups of one to four digits

pub one_hex : {text rest : List ℕ} {a : ℕ} → BeginsWithHex text a rest → NoHex rest → BeginsWithGroup text a rest
one_hex first stops = record {
  front = first.byte ∷ [];
  named = record {
    digits = (lit≤ tt, (below first, tt));
    short = lit≤ tt;
    value = rw first.value (omega arith);
  };
  split = first.split;
  stops = stops;
}

pub two_hexes : {text r rest : List ℕ} {a b : ℕ} → BeginsWithHex text a r → BeginsWithHex r b rest → NoHex rest
    → BeginsWithGroup text (a * 16 + b) rest
two_hexes first second stops = record {
  front = first.byte ∷ second.byte ∷ [];
  named = record {
    digits = (lit≤ tt, (below first, (below second, tt)));
    short = lit≤ tt;
    value = rw (first.value, second.value) (omega arith);
  };
  split = first.split ∙ ap (λ more. first.byte ∷ more) second.split;
  stops = stops;
}

pub three_hexes : {text r s rest : List ℕ} {a b c : ℕ} → BeginsWithHex text a r → BeginsWithHex r b s
    → BeginsWithHex s c rest → NoHex rest → BeginsWithGroup text ((a * 16 + b) * 16 + c) rest
three_hexes first second third stops = record {
  front = first.byte ∷ second.byte ∷ third.byte ∷ [];
  named = record {
    digits = (lit≤ tt, (below first, (below second, (below third, tt))));
    short = lit≤ tt;
    value = rw (first.value, second.value, third.value) (omega arith);
  };
  split = first.split ∙ ap (λ more. first.byte ∷ more) (second.split ∙ ap (λ more. second.byte ∷ more) third.split);
  stops = stops;
}

pub four_hexes : {text r s t rest : List ℕ} {a b c d : ℕ} → BeginsWithHex text a r → BeginsWithHex r b s → BeginsWithHex
    s c t → BeginsWithHex t d rest → NoHex rest → BeginsWithGroup text (((a * 16 + b) * 16 + c) * 16 + d) rest
four_hexes first second third fourth stops = record {
  front = first.byte ∷ second.byte ∷ third.byte ∷ fourth.byte ∷ [];
  named = record {
    digits = (lit≤ tt, (below first, (below second, (below third, (below fourth, tt)))));
    short = lit≤ tt;
    value = rw (first.value, second.value, third.value, fourth.value) (omega arith);
  };
  split = first.split ∙ ap (λ more. first.byte ∷ more)
      (second.split ∙ ap (λ more. second.byte ∷ more) (third.split ∙ ap (λ more. third.byte ∷ more) fourth.split));
  stops = stops;
}

-- ---- texts that begin with no group

-- a text that begins with a hex digit does not stop a group
pub goes_on : {text : List ℕ} {d : ℕ} {r : List ℕ} → BeginsWithHex text d r → ¬ (NoHex text)
goes_on {text} h stops =
    let e : get_or text 0 0 ≡ h.byte = ap (λ t. get_or t 0 0) h.split in
    let small = below h in
    let large : 16 ≤ digit_value h.byte = subst (λ (b : ℕ). 16 ≤ digit_value b) e stops in
    omega (arith, small, large)

behind : {text : List ℕ} {d : ℕ} {r : List ℕ} → BeginsWithHex text d r → drop 1 text ≡ r
behind h = ap (drop 1) h.split

pub no_group_of_five : {text r s t u v : List ℕ} {a b c d e : ℕ} → BeginsWithHex text a r → BeginsWithHex r b s
    → BeginsWithHex s c t → BeginsWithHex t d u → BeginsWithHex u e v → NoGroup text
no_group_of_five {text} {r} {s} {t} {u} first second third fourth fifth group rest h =
    go h.front h.named.digits.0 h.named.short h.split
  where
    is_r : drop 1 text ≡ r
    is_r = behind first

    is_s : drop 2 text ≡ s
    is_s = ap (λ t. drop 2 t) first.split ∙ behind second

    is_t : drop 3 text ≡ t
    is_t = ap (λ t. drop 3 t) first.split ∙ ap (λ t. drop 2 t) second.split ∙ behind third

    is_u : drop 4 text ≡ u
    is_u = ap (λ t. drop 4 t) first.split ∙ ap (λ t. drop 3 t) second.split ∙ ap (λ t. drop 2 t) third.split
        ∙ behind fourth

    go : (front : List ℕ) → 0 < length front → length front ≤ 4 → text ≡ front ++ rest → ⊥
    go [] some short split = omega (arith, some)
    go (x ∷ []) some short split = goes_on second (subst NoHex (sym (ap (drop 1) split) ∙ is_r) h.stops)
    go (x ∷ y ∷ []) some short split = goes_on third (subst NoHex (sym (ap (drop 2) split) ∙ is_s) h.stops)
    go (x ∷ y ∷ z ∷ []) some short split = goes_on fourth (subst NoHex (sym (ap (drop 3) split) ∙ is_t) h.stops)
    go (x ∷ y ∷ z ∷ w ∷ []) some short split = goes_on fifth (subst NoHex (sym (ap (drop 4) split) ∙ is_u) h.stops)
    go (x ∷ y ∷ z ∷ w ∷ q ∷ more) some short split = omega (arith, short)

-- ---- a text begins with at most one group

pub same_digits : (a b r s : List ℕ) → AllDigits 16 a → AllDigits 16 b → NoHex r → NoHex s → a ++ r ≡ b ++ s
    → (a ≡ b) × (r ≡ s)
same_digits [] [] r s h k f g e = (refl, e)
same_digits [] (y ∷ b) r s h k f g e =
    let large : 16 ≤ digit_value y = subst (λ (t : List ℕ). NoHex t) e f in
    absurd (omega (arith, large, k.0))
same_digits (x ∷ a) [] r s h k f g e =
    let large : 16 ≤ digit_value x = subst (λ (t : List ℕ). NoHex t) (sym e) g in
    absurd (omega (arith, large, h.0))
same_digits (x ∷ a) (y ∷ b) r s h k f g e =
    let head : x ≡ y = ap (λ t. get_or t 0 0) e in
    let more = same_digits a b r s h.1 k.1 f g (ap (drop 1) e) in
    (ap (λ z. z ∷ a) head ∙ ap (λ t. y ∷ t) more.0, more.1)

pub group_unique : (text : List ℕ) (g h : ℕ) (r s : List ℕ) → BeginsWithGroup text g r → BeginsWithGroup text h s
    → (g ≡ h) × (r ≡ s)
group_unique text g h r s p q =
    let same = same_digits p.front q.front r s p.named.digits.1 q.named.digits.1 p.stops q.stops
    (sym p.split ∙ q.split) in
    (p.named.value ∙ ap (digits_value 16) same.0 ∙ sym q.named.value, same.1)

pub group_fits : (text : List ℕ) (g : ℕ) (r : List ℕ) → BeginsWithGroup text g r → g < 2 ^ 16
group_fits text g r h =
    let under = digits_value-lt 16 h.front h.named.digits.1 in
    let most : 16 ^ length h.front ≤ 16 ^ 4 = pow-le-pow_right {n = 16} (lit≤ tt) {j = 4} h.named.short in
    omega (arith, under, most, h.named.value)
