-- The number of parts for a number of ranges.
use Rattle.ipnetwork_index.proofs.Words.{◌≡◌, ℕ, suc, ◌+◌, ◌-◌, ◌*◌, ◌^◌, ◌<◌, ◌≤◌, arith, sym, subst, ⊎_elim, min, count_leading_zeros, cases_lt, leading_top, mul-le, pow-add, pow_pos, mul-suc, mul-zero, pow-le-pow_right, two-pow-succ, HasParts}

-- n is at least 1 and has this number of bits
pub record HasBits (n bits : ℕ) : Type 0 where
  pub some : 1 ≤ bits
  pub from : 2 ^ bits ≤ 2 * n
  pub to : n < 2 ^ bits

pub has_bits : (n : ℕ) → 1 ≤ n → n < 2 ^ 64 → HasBits n (64 - count_leading_zeros 64 n)
has_bits n l m =
    let top = leading_top 64 n l m in
    let j : ℕ = top.0 in
    let is : 64 - count_leading_zeros 64 n ≡ suc j = omega (arith, top.1) in
    subst (λ (k : ℕ). HasBits n k) (sym is) (record {
      some = omega arith;
      from = omega (arith, two-pow-succ j, top.2);
      to = top.3;
    })

-- a number less than 2 ^ k has at most k bits, and any other has more
pub few_bits : (n bits k : ℕ) → HasBits n bits → n < 2 ^ k → bits ≤ k
few_bits n bits k h l = ⊎_elim
    (λ (more : k < bits).
    let p : 2 ^ (suc k) ≤ 2 ^ bits = pow-le-pow_right (omega arith) (omega arith) in
    absurd (omega (arith, p, two-pow-succ k, h.from)))
    (λ (le : bits ≤ k). le)
    (cases_lt k bits)

pub many_bits : (n bits k : ℕ) → HasBits n bits → 2 ^ k ≤ n → k < bits
many_bits n bits k h l = ⊎_elim
    (λ (more : k < bits). more)
    (λ (le : bits ≤ k).
    let p : 2 ^ bits ≤ 2 ^ k = pow-le-pow_right (omega arith) le in
    absurd (omega (arith, p, h.to)))
    (cases_lt k bits)

one_bit_less : (n bits : ℕ) → HasBits n bits → 2 ^ bits ≡ 2 ^ (bits - 1) + 2 ^ (bits - 1)
one_bit_less n bits h =
    let j : ℕ = bits - 1 in
    let is : suc j ≡ bits = omega (arith, h.some) in
    subst (λ (k : ℕ). 2 ^ k ≡ 2 ^ j + 2 ^ j) is (two-pow-succ j)

-- ---- the parts

pub two_to_four : (n bits : ℕ) → HasBits n bits → HasParts (2 * n) (4 * n) (bits + 1)
two_to_four n bits h =
    let is : suc bits ≡ bits + 1 = omega arith in
    let twice : 2 ^ (bits + 1) ≡ 2 ^ bits + 2 ^ bits
    = subst (λ (k : ℕ). 2 ^ k ≡ 2 ^ bits + 2 ^ bits) is (two-pow-succ bits) in
    record {
      more = λ l. omega (arith, twice, h.to);
      within = omega (arith, twice, h.from);
    }

-- the number of parts is between these two, and at most 2 ^ 20
capped : (least most bits : ℕ) → least < 2 ^ bits → 2 ^ bits ≤ most
    → HasParts least most (min bits 20)
capped least most bits more within = ⊎_elim
    (λ (less : bits < 20).
    let is : bits ≡ min bits 20 = omega arith in
    subst (λ (k : ℕ). HasParts least most k) is (record { more = λ l. more; within = within }))
    (λ (all : 20 ≤ bits).
    let p : 2 ^ 20 ≤ 2 ^ bits = pow-le-pow_right (omega arith) all in
    let is : 20 ≡ min bits 20 = omega arith in
    subst (λ (k : ℕ). HasParts least most k) is (record {
      more = λ (l : 20 < 20). absurd (omega arith);
      within = omega (arith, p, within);
    }))
    (cases_lt bits 20)

pub one_to_two : (n bits : ℕ) → HasBits n bits → HasParts n (2 * n) (min bits 20)
one_to_two n bits h = capped n (2 * n) bits h.to h.from

-- ---- how many of n 32-bit numbers a part has on average

pub two_in_each : (n bits shift : ℕ) → HasBits n bits → 34 ≤ shift + bits
    → 2 * 2 ^ 32 ≤ 2 ^ shift * n
two_in_each n bits shift h l =
    let j : ℕ = bits - 1 in
    let twice : 2 ^ bits ≡ 2 ^ j + 2 ^ j = one_bit_less n bits h in
    let wide : 33 ≤ shift + j = omega (arith, h.some, l) in
    let low : 2 ^ 33 ≤ 2 ^ (shift + j) = pow-le-pow_right (omega arith) wide in
    let all : 2 ^ shift * 2 ^ j ≤ 2 ^ shift * n
    = mul-le (2 ^ shift) (2 ^ j) (2 ^ shift) n (omega arith) (omega (arith, twice, h.from)) in
    let both = pow-add 2 shift j in
    omega (arith, low, both, all)

pub eight_in_each : (n bits shift : ℕ) → HasBits n bits → shift + bits ≤ 35
    → 2 ^ shift * n < 8 * 2 ^ 32
eight_in_each n bits shift h l =
    let high : 2 ^ (shift + bits) ≤ 2 ^ 35 = pow-le-pow_right (omega arith) l in
    let all : 2 ^ shift * suc n ≤ 2 ^ shift * 2 ^ bits
    = mul-le (2 ^ shift) (suc n) (2 ^ shift) (2 ^ bits) (omega arith) (omega (arith, h.to)) in
    let both = pow-add 2 shift bits in
    omega (arith, high, all, both, mul-suc (2 ^ shift) n, pow_pos shift)

pub eight_of_none : (n shift : ℕ) → n ≤ 0 → 2 ^ shift * n < 8 * 2 ^ 32
eight_of_none n shift l =
    let none : 0 ≡ n = omega arith in
    subst (λ (k : ℕ). 2 ^ shift * k < 8 * 2 ^ 32) none (omega (arith, mul-zero (2 ^ shift)))
