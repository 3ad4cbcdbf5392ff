-- The last offset in a block, as a shift gives it.
use Rattle.allotting.proofs.Words.{◌≡◌, ℕ, suc, ◌+◌, ◌-◌, ◌*◌, ◌/◌, ◌^◌, ◌<◌, ap, ◌∙◌, arith, pow-add, pow_pos, shr_high}

one_less : (a q : ℕ) → 0 < q → suc a * q - 1 ≡ a * q + (q - 1)
one_less a q some = omega arith

-- h ones are k + h ones without the last k
pub ones_left : (k h : ℕ) → (2 ^ (k + h) - 1) / 2 ^ k + 1 ≡ 2 ^ h
ones_left k h =
    let turned : k + h ≡ h + k = omega arith in
    let parts : 2 ^ (k + h) ≡ 2 ^ h * 2 ^ k = ap (λ n. 2 ^ n) turned ∙ pow-add 2 h k in
    let some : 2 ^ h ≡ suc (2 ^ h - 1) = omega (arith, pow_pos h) in
    let split : 2 ^ (k + h) - 1 ≡ (2 ^ h - 1) * 2 ^ k + (2 ^ k - 1) =
    ap (λ n. n - 1) (parts ∙ ap (λ n. n * 2 ^ k) some) ∙ one_less (2 ^ h - 1) (2 ^ k) (pow_pos k) in
    let high : (2 ^ (k + h) - 1) / 2 ^ k ≡ 2 ^ h - 1 = ap (λ z. z / 2 ^ k) split
    ∙ shr_high (2 ^ h - 1) k (2 ^ k - 1) (omega (arith, pow_pos k)) in
    omega (arith, high, pow_pos h)
