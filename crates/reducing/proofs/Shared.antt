-- The block that two networks are joined into.
use Rattle.reducing.proofs.Words.{◌≡◌, ◌==◌, true, false, ℕ, zero, suc, ◌+◌, ◌-◌, ◌*◌, ◌/◌, ◌^◌, ◌<◌, ◌≤◌, ◌∷◌, [], min, refl, sym, ap, subst, ◌∙◌, arith, ⊎_elim, eqb-true, eqb-false, cases_Bool, cond-true, cond-false, cases_lt, shr-shr, shr_below, shr_high, pow-add, pow_pos, SharesBits, Network, IsNetwork, block_size, block_at, low, has_ends, IsSpanning, spans_both, shared, joined}

-- the halves of numbers of v + 1 bits agree in as many bits of v as the numbers do
halved : (v q x : ℕ) → q ≤ v → x / 2 / block_size v q ≡ x / block_size (suc v) q
halved v q x h =
    let e : 1 + (v - q) ≡ suc v - q = omega arith in
    shr-shr x 1 (v - q) ∙ ap (λ k. x / 2 ^ k) e

whole_bits : (v x : ℕ) → x / block_size (suc v) (suc v) ≡ x
whole_bits v x =
    let e : suc v - suc v ≡ 0 = omega arith in
    ap (λ k. x / 2 ^ k) e ∙ omega arith

halves_share : (v x y p : ℕ) → (x ≡ y → ⊥) → SharesBits v (x / 2) (y / 2) p → SharesBits (suc v) x y p
halves_share v x y p differ h = record {
  within = omega (arith, h.within);
  agree = sym (halved v p x h.within) ∙ h.agree ∙ halved v p y h.within;
  greatest = λ q fits same.
      let Goal : Type 0 = q ≤ p in
      ⊎_elim
      (λ (less : q < suc v). let in_v : q ≤ v = omega arith in
      let r : Goal = h.greatest q in_v (halved v q x in_v ∙ same ∙ sym (halved v q y in_v)) in r)
      (λ (all : suc v ≤ q). let whole : q ≡ suc v = omega arith in
      let same_all = subst (λ (k : ℕ). x / block_size (suc v) k ≡ y / block_size (suc v) k) whole same in
      let r : Goal = absurd (differ (sym (whole_bits v x) ∙ same_all ∙ whole_bits v y)) in r)
      (cases_lt q (suc v));
}

shared_shares : (w x y : ℕ) → x < 2 ^ w → y < 2 ^ w → SharesBits w x y (shared w x y)
unfolding shared
shared_shares zero x y fx fy = record {
  within = omega arith;
  agree = let nx : x ≡ 0 = omega arith in let ny : y ≡ 0 = omega arith in ap (λ z. z / 2 ^ (0 - 0)) (nx ∙ sym ny);
  greatest = λ q fits same. fits;
}
shared_shares (suc v) x y fx fy =
    let Goal : Type 0 = SharesBits (suc v) x y (shared (suc v) x y) in
    let next : suc v ≡ v + 1 = omega arith in
    let hx : x / 2 < 2 ^ v = shr_below x v 1 (subst (λ (k : ℕ). x < 2 ^ k) next fx) in
    let hy : y / 2 < 2 ^ v = shr_below y v 1 (subst (λ (k : ℕ). y < 2 ^ k) next fy) in
    ⊎_elim
    (λ (e : (x == y) ≡ true).
    let all : SharesBits (suc v) x y (suc v) = record {
      within = omega arith;
      agree = ap (λ z. z / block_size (suc v) (suc v)) (eqb-true x y e);
      greatest = λ q fits same. fits;
    } in
    let r : Goal = subst (λ (k : ℕ). SharesBits (suc v) x y k)
    (sym (cond-true (x == y) (suc v) (shared v (x / 2) (y / 2)) e)) all in r)
    (λ (e : (x == y) ≡ false).
    let r : Goal = subst (λ (k : ℕ). SharesBits (suc v) x y k)
    (sym (cond-false (x == y) (suc v) (shared v (x / 2) (y / 2)) e))
    (halves_share v x y (shared v (x / 2) (y / 2)) (eqb-false x y e) (shared_shares v (x / 2) (y / 2) hx hy)) in r)
    (cases_Bool (x == y))

low_fits : (w : ℕ) (n : Network) → IsNetwork w n → low w n < 2 ^ w
low_fits w n h = (has_ends w n h).low_is_member.0

pub joined_prefix : (w s p : ℕ) (a b : Network) → IsNetwork w a → IsNetwork w b → SharesBits w (low w a) (low w b) s
    → p ≡ min (min s a.prefix) b.prefix → p ≡ (joined w a b).prefix
unfolding joined
joined_prefix w s p a b an bn h is =
    let k = shared_shares w (low w a) (low w b) (low_fits w a an) (low_fits w b bn) in
    let one : s ≡ shared w (low w a) (low w b) =
    omega (arith, h.greatest (shared w (low w a) (low w b)) k.within k.agree, k.greatest s h.within h.agree) in
    is ∙ ap (λ q. min (min q a.prefix) b.prefix) one

pub joined_spans : (w : ℕ) (a b : Network) → IsNetwork w a → IsNetwork w b → IsSpanning w (a ∷ b ∷ []) (joined w a b)
unfolding joined
joined_spans w a b an bn =
    spans_both w (shared w (low w a) (low w b)) (min (min (shared w (low w a) (low w b)) a.prefix) b.prefix) a b an bn
    (shared_shares w (low w a) (low w b) (low_fits w a an) (low_fits w b bn)) refl

pub joined_at : (w : ℕ) (a b : Network) → joined w a b ≡ block_at w (low w a) (joined w a b).prefix
unfolding joined
joined_at w a b = refl

less_one : (a q : ℕ) → 0 < q → suc a * q - 1 ≡ a * q + (q - 1)
less_one a q some = omega arith

pub ones_shifted : (k h : ℕ) → (2 ^ (k + h) - 1) / 2 ^ k + 1 ≡ 2 ^ h
ones_shifted k h =
    let turned : k + h ≡ h + k = omega arith in
    let parts : 2 ^ (k + h) ≡ 2 ^ h * 2 ^ k = ap (λ n. 2 ^ n) turned ∙ pow-add 2 h k in
    let some : 2 ^ h ≡ suc (2 ^ h - 1) = omega (arith, pow_pos h) in
    let split : 2 ^ (k + h) - 1 ≡ (2 ^ h - 1) * 2 ^ k + (2 ^ k - 1) =
    ap (λ n. n - 1) (parts ∙ ap (λ n. n * 2 ^ k) some) ∙ less_one (2 ^ h - 1) (2 ^ k) (pow_pos k) in
    let high : (2 ^ (k + h) - 1) / 2 ^ k ≡ 2 ^ h - 1 = ap (λ z. z / 2 ^ k) split
    ∙ shr_high (2 ^ h - 1) k (2 ^ k - 1) (omega (arith, pow_pos k)) in
    omega (arith, high, pow_pos h)
