-- The number of an address from the numbers of its groups before and after a `::`.
use Rattle.ipnetwork_addr.proofs.Words.{◌≡◌, ℕ, zero, suc, ◌+◌, ◌-◌, ◌*◌, ◌%◌, ◌^◌, ◌<◌, ◌≤◌, List, [], ◌∷◌, ◌++◌, length, replicate, refl, sym, ap, ◌∙◌, arith, mul_assoc, mul-lt-mul_of_pos_right, pow-add, pow_pos, mul-add-lt, number_after_append, number_from_digits, number_from_digits_after}

-- powers of the base 2^16 are powers of 2
two_powers : (k : ℕ) → 2 ^ (16 * k) ≡ (2 ^ 16) ^ k
two_powers zero = refl
two_powers (suc k) =
    let e : 16 * suc k ≡ 16 * k + 16 = omega arith in
    let f : suc k ≡ k + 1 = omega arith in
    ap (λ n. 2 ^ n) e ∙ pow-add 2 (16 * k) 16 ∙ ap (λ p. p * 2 ^ 16) (two_powers k)
    ∙ sym (ap (λ n. (2 ^ 16) ^ n) f ∙ pow-add (2 ^ 16) k 1)

power_suc : (k : ℕ) → (2 ^ 16) ^ suc k ≡ (2 ^ 16) ^ k * 2 ^ 16
power_suc k = let f : suc k ≡ k + 1 = omega arith in ap (λ n. (2 ^ 16) ^ n) f ∙ pow-add (2 ^ 16) k 1

pub positive : (k : ℕ) → 0 < (2 ^ 16) ^ k
positive k = rw (← two_powers k) (pow_pos (16 * k))

pub shifted : (n c : ℕ) → c ≤ 7 → n < (2 ^ 16) ^ c
    → n * 2 ^ (112 - 16 * c) % 2 ^ 128 * 2 ^ 16 % 2 ^ 128 ≡ n * (2 ^ 16) ^ (8 - c)
shifted n c most small =
    let j : ℕ = 7 - c in
    let e : 112 - 16 * c ≡ 16 * j = omega arith in
    let up : 2 ^ (112 - 16 * c) ≡ (2 ^ 16) ^ j = ap (λ k. 2 ^ k) e ∙ two_powers j in
    let q : ℕ = (2 ^ 16) ^ j in
    let whole : (2 ^ 16) ^ c * q ≡ 2 ^ 112 = let f : c + j ≡ 7 = omega arith in
    sym (pow-add (2 ^ 16) c j) ∙ ap (λ k. (2 ^ 16) ^ k) f in
    let less : n * q < (2 ^ 16) ^ c * q = mul-lt-mul_of_pos_right small (positive j) in
    let under : n * q < 2 ^ 112 = omega (arith, less, whole) in
    let last : (2 ^ 16) ^ (8 - c) ≡ q * 2 ^ 16 = let f : 8 - c ≡ j + 1 = omega arith in
    ap (λ k. (2 ^ 16) ^ k) f ∙ pow-add (2 ^ 16) j 1 in
    let inner : n * 2 ^ (112 - 16 * c) % 2 ^ 128 ≡ n * q = ap (λ p. n * p % 2 ^ 128) up ∙ omega (arith, under) in
    ap (λ m. m * 2 ^ 16 % 2 ^ 128) inner ∙ omega (arith, under) ∙ mul_assoc n q (2 ^ 16) ∙ ap (λ p. n * p) (sym last)

-- the number with more digits after it
number_after : (n : ℕ) (ds : List ℕ)
    → number_from_digits_after (2 ^ 16) n ds ≡ n * (2 ^ 16) ^ length ds + number_from_digits (2 ^ 16) ds
number_after n [] = omega arith
number_after n (d ∷ ds) =
    let p : ℕ = (2 ^ 16) ^ length ds in
    let up : (2 ^ 16) ^ suc (length ds) ≡ p * 2 ^ 16 = power_suc (length ds) in
    let z : ℕ = number_from_digits (2 ^ 16) ds in
    let own : ℕ = number_from_digits_after (2 ^ 16) (0 * 2 ^ 16 + d) ds in
    let f : own ≡ (0 * 2 ^ 16 + d) * p + z = number_after (0 * 2 ^ 16 + d) ds in
    let e : (n * 2 ^ 16 + d) * p + z ≡ n * (p * 2 ^ 16) + own = omega (arith, f) in
    number_after (n * 2 ^ 16 + d) ds ∙ e ∙ ap (λ m. n * m + own) (sym up)

number_zeros : (k n : ℕ) → number_from_digits_after (2 ^ 16) n (replicate k 0) ≡ n * (2 ^ 16) ^ k
number_zeros zero n = omega arith
number_zeros (suc k) n =
    let p : ℕ = (2 ^ 16) ^ k in
    let up : (2 ^ 16) ^ suc k ≡ p * 2 ^ 16 = power_suc k in
    let e : (n * 2 ^ 16 + 0) * p ≡ n * (p * 2 ^ 16) = omega arith in
    number_zeros k (n * 2 ^ 16 + 0) ∙ e ∙ ap (λ m. n * m) (sym up)

-- the number of eight groups, with zeros for the missing ones
pub number_with_gap : (left right : List ℕ) → length left + length right ≤ 7
    → number_from_digits (2 ^ 16) (left ++ replicate (8 - length left - length right) 0 ++ right) ≡ number_from_digits
    (2 ^ 16) left * (2 ^ 16) ^ (8 - length left) + number_from_digits (2 ^ 16) right
number_with_gap left right room =
    let k : ℕ = 8 - length left - length right in
    let n : ℕ = number_from_digits (2 ^ 16) left in
    let zeros : List ℕ = replicate k 0 in
    let e : k + length right ≡ 8 - length left = omega arith in
    number_after_append (2 ^ 16) 0 (left ++ zeros) right
    ∙ ap (λ m. number_from_digits_after (2 ^ 16) m right) (number_after_append (2 ^ 16) 0 left zeros ∙ number_zeros k n)
    ∙ number_after (n * (2 ^ 16) ^ k) right
    ∙ ap (λ m. m + number_from_digits (2 ^ 16) right) (mul_assoc n ((2 ^ 16) ^ k) ((2 ^ 16) ^ length right)
    ∙ ap (λ p. n * p) (sym (pow-add (2 ^ 16) k (length right)) ∙ ap (λ m. (2 ^ 16) ^ m) e))

-- the number fits in 128 bits
pub gap_fits : (n m c : ℕ) → c ≤ 7 → n < (2 ^ 16) ^ c → m < (2 ^ 16) ^ (7 - c) → n * (2 ^ 16) ^ (8 - c) + m < 2 ^ 128
gap_fits n m c most left right =
    let j : ℕ = 7 - c in
    let more : (2 ^ 16) ^ (8 - c) ≡ (2 ^ 16) ^ j * 2 ^ 16 = let f : 8 - c ≡ j + 1 = omega arith in
    ap (λ k. (2 ^ 16) ^ k) f ∙ pow-add (2 ^ 16) j 1 in
    let under : m < (2 ^ 16) ^ (8 - c) = omega (arith, more, right) in
    let whole : (2 ^ 16) ^ (8 - c) * (2 ^ 16) ^ c ≡ 2 ^ 128 = let f : 8 - c + c ≡ 8 = omega arith in
    sym (pow-add (2 ^ 16) (8 - c) c) ∙ ap (λ k. (2 ^ 16) ^ k) f in
    omega (arith, mul-add-lt n ((2 ^ 16) ^ (8 - c)) m ((2 ^ 16) ^ c) left under, whole)
