-- Counts of bits: the leading bits that two numbers share, and the trailing zeros of a number.
use Rattle.ipnetwork_family.proofs.Words.{◌≡◌, ◌↔◌, ℕ, zero, suc, ◌+◌, ◌-◌, ◌*◌, ◌/◌, ◌%◌, ◌^◌, ◌<◌, ◌≤◌, bit_xor, refl, sym, ap, ◌∙◌, inl, inr, arith, xor_add_and, xor_self, count_leading_zeros, count_trailing_zeros, under, div-lt_iff_lt-mul, cases_lt, pow_pos, pow-add, mul-le, xor_shr, xor_lt, and_le_l, and_le_r, leading_length, mod-pow-add, SharesBits, EndsInZeros}

-- ---- leading bits

pub no_difference : (a b : ℕ) → bit_xor a b ≡ 0 → a ≡ b
no_difference a b e = omega (arith, xor_add_and a b, and_le_l a b, and_le_r a b)

-- two numbers agree before their last k bits exactly if they differ only in those k bits
agree_before : (a b k : ℕ) → (a / 2 ^ k ≡ b / 2 ^ k) ↔ (bit_xor a b < 2 ^ k)
agree_before a b k =
    let one : (bit_xor a b / 2 ^ k < 1) ↔ (bit_xor a b < 1 * 2 ^ k) = div-lt_iff_lt-mul (pow_pos k) in (
      (λ e. let none : bit_xor a b / 2 ^ k ≡ 0 = xor_shr a b k ∙ ap (λ n. bit_xor n (b / 2 ^ k)) e
          ∙ xor_self (b / 2 ^ k) in
          omega (arith, one.0 (omega arith))),
      (λ below. no_difference (a / 2 ^ k) (b / 2 ^ k) (sym (xor_shr a b k) ∙ (omega (arith, one.1 (omega arith))))),
    )

doubled : (j m : ℕ) → j < m → 2 * 2 ^ j ≤ 2 ^ m
doubled j m h =
    let e : m ≡ (m - j - 1) + (1 + j) = omega arith in
    let power : 2 ^ m ≡ 2 ^ (m - j - 1) * 2 ^ (1 + j) = ap (λ i. 2 ^ i) e ∙ pow-add 2 (m - j - 1) (1 + j) in
    omega (
      arith,
      power,
      pow-add 2 1 j,
      mul-le 1 (2 ^ (1 + j)) (2 ^ (m - j - 1)) (2 ^ (1 + j)) (pow_pos (m - j - 1))
          (omega arith),
    )

pub shared_bits : (w a b : ℕ) → a < 2 ^ w → b < 2 ^ w → SharesBits w a b (count_leading_zeros w (bit_xor a b))
shared_bits w a b h k =
    let x : ℕ = bit_xor a b in
    let (m, count, fits, long) = leading_length w x (xor_lt w a b h k) in
    let rest : w - count_leading_zeros w x ≡ m = omega (arith, count) in
    record {
      within = omega (arith, count);
      agree = rw rest ((agree_before a b m).1 fits);
      greatest = λ q le e. elim (cases_lt (count_leading_zeros w x) q) [
        | inl more ↦ absurd (omega
            (arith, (agree_before a b (w - q)).0 e, doubled (w - q) m (omega (arith, count)), long))
        | inr enough ↦ enough
      ];
    }

-- ---- trailing zeros

one_bit_more : (n j : ℕ) → n % 2 ^ suc j ≡ n / 2 % 2 ^ j * 2 + n % 2
one_bit_more n j = let e : suc j ≡ j + 1 = omega arith in ap (λ i. n % 2 ^ i) e ∙ mod-pow-add n j 1

of_odd : (n d j : ℕ) → n % 2 ≡ suc d → n % 2 ^ j ≡ 0 → j ≤ 0
of_odd n d zero odd e = omega arith
of_odd n d (suc j) odd e = absurd (omega (arith, one_bit_more n j))

of_even : (k n t j : ℕ) → n % 2 ≡ 0 → EndsInZeros k (n / 2) t → j ≤ suc k → n % 2 ^ j ≡ 0 → j ≤ suc t
of_even k n t zero even half le e = omega arith
of_even k n t (suc j) even half le e = omega (arith, half.greatest j (omega arith) (omega (arith, one_bit_more n j)))

with_last : (k n t d : ℕ) → n % 2 ≡ d → EndsInZeros k (n / 2) t → EndsInZeros (suc k) n (under d t)
with_last k n t (suc d) odd half =
    record { within = omega arith; divides = omega arith; greatest = λ j le e. of_odd n d j odd e }
with_last k n t zero even half = record {
  within = omega (arith, half.within);
  divides = one_bit_more n t ∙ (omega (arith, half.divides));
  greatest = λ j le e. of_even k n t j even half le e;
}

pub trailing_zeros : (w n : ℕ) → EndsInZeros w n (count_trailing_zeros w n)
unfolding count_trailing_zeros
trailing_zeros zero n = record { within = omega arith; divides = omega arith; greatest = λ j le e. le }
trailing_zeros (suc k) n = with_last k n (count_trailing_zeros k (n / 2)) (n % 2) refl (trailing_zeros k (n / 2))
