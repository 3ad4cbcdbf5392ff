-- Percents of a number that is so many hundreds and a rest.
use Rattle.cidr_merge.proofs.Words.{◌≡◌, ◌<◌, ◌^◌, ℕ, ◌+◌, ◌*◌, ◌/◌, ◌%◌, ◌∙◌, ap, sym, subst, arith, Option}
use Rattle.std.specs.Prelude.{SomeIff}

pub percent_parts : (p n h r : ℕ) → n ≡ h * 100 + r → p * n / 100 ≡ p * h + (p / 100 * r + p % 100 * r / 100)
percent_parts p n h r is =
    let whole : p * n ≡ p * h * 100 + p * r = ap (λ z. p * z) is ∙ omega arith in
    let cut : p ≡ p / 100 * 100 + p % 100 = omega arith in
    let rest : p * r ≡ p / 100 * r * 100 + p % 100 * r = ap (λ z. z * r) cut ∙ omega arith in
    omega (arith, whole, rest)

-- the sum of the percents of the hundreds and those of the rest, if it fits
pub percent_sum : (p n h r hundreds : ℕ) (sum : Option ℕ) → n ≡ h * 100 + r → hundreds ≡ p * h
    → SomeIff sum (hundreds + (p / 100 * r + p % 100 * r / 100) < 2 ^ 128)
    (hundreds + (p / 100 * r + p % 100 * r / 100))
    → SomeIff sum (p * n / 100 < 2 ^ 128) (p * n / 100)
percent_sum p n h r hundreds sum is whole fits =
    subst (λ (v : ℕ). SomeIff sum (v < 2 ^ 128) v)
    (ap (λ z. z + (p / 100 * r + p % 100 * r / 100)) whole ∙ sym (percent_parts p n h r is)) fits
