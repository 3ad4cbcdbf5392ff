-- Thousandths of a network of which a part is used.
use Rattle.cidr_merge.proofs.Words.{◌≡◌, ◌≤◌, ◌^◌, ℕ, ◌+◌, ◌-◌, ◌*◌, ◌/◌, ◌%◌, ◌∙◌, ap, sym, arith, pow_mono}
use Rattle.std.proofs.Math.Nat.{div-div-eq-div-mul, div-le_of_le-mul, mul-div_cancel_left}
use Rattle.std.proofs.lemmas.Nat.{pow-add, pow_pos}

-- at most all is used
pub most_of : (n whole : ℕ) → n ≤ whole → n * 1000 / whole ≤ 1000
most_of n whole l = div-le_of_le-mul whole (omega (arith, l))

-- all of IPv6 is used
pub all_of : (n h : ℕ) → n ≡ 2 ^ 128 → n ≤ 2 ^ h → h ≤ 128 → 1000 ≡ n * 1000 / 2 ^ h
all_of n h is l few =
    let small : 2 ^ h ≤ 2 ^ 128 = pow_mono few in
    let same : n ≡ 2 ^ h = omega (arith, is, l, small) in
    sym (ap (λ z. z * 1000 / 2 ^ h) same ∙ mul-div_cancel_left 1000 (pow_pos h))

pub all_left : (n h : ℕ) → n ≡ 2 ^ 128 → n ≤ 2 ^ h → h ≤ 128 → n + 0 ≡ 2 ^ h
all_left n h is l few =
    let small : 2 ^ h ≤ 2 ^ 128 = pow_mono few in
    omega (arith, is, l, small)

-- the number is taken apart into its high half and the rest
high_half : (n rest : ℕ) → n ≡ n / 2 ^ 64 * 2 ^ 64 + rest → n / 2 ^ 64 * 1000 + rest * 1000 / 2 ^ 64 ≡ n * 1000 / 2 ^ 64
high_half n rest cut = omega (arith, cut)

pub by_halves : (n h rest : ℕ) → 64 ≤ h → rest ≡ n % 2 ^ 64
    → (n / 2 ^ 64 * 1000 + rest * 1000 / 2 ^ 64) / 2 ^ (h - 64) ≡ n * 1000 / 2 ^ h
by_halves n h rest l is =
    let more : 64 + (h - 64) ≡ h = omega (arith, l) in
    let whole : 2 ^ 64 * 2 ^ (h - 64) ≡ 2 ^ h = sym (pow-add 2 64 (h - 64)) ∙ ap (λ k. 2 ^ k) more in
    ap (λ z. z / 2 ^ (h - 64)) (high_half n rest (omega (arith, is)))
    ∙ div-div-eq-div-mul (n * 1000) (2 ^ 64) (2 ^ (h - 64)) ∙ ap (λ z. n * 1000 / z) whole
