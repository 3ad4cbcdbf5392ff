-- The block with a given number among those of a prefix length within a network.
use Rattle.ipnetwork_blocks.proofs.Words.{◌≡◌, ◌≢◌, ◌↔◌, ℕ, zero, suc, refl, ◌+◌, ◌-◌, ◌*◌, ◌/◌, ◌^◌, ◌<◌, ◌≤◌, IsTrue, nat_eq, ap, ◌∙◌, arith, ⊎_elim, add-mul-div_left, div-lt_iff_lt-mul, pow_mono, cases_lt, eqb-true, eq-eqb, pow_pos, mul-le, Network, IsNetwork, low, block_size, block_at, size_pos, size_divides, high_fits, subnet_number}

-- i is the number of a block of prefix length p within the network
pub record IsNumber (w : ℕ) (n : Network) (p i : ℕ) : Type 0 where
  pub network : IsNetwork w n
  pub longer : n.prefix ≤ p
  pub within : p ≤ w
  pub below : i < 2 ^ (p - n.prefix)

-- the block's addresses lie within the network
distance_fits : (w : ℕ) (n : Network) (p i : ℕ) → IsNumber w n p i
    → i * block_size w p + block_size w p ≤ block_size w n.prefix
distance_fits w n p i h =
    let s : ℕ = block_size w p in
    let many : ℕ = 2 ^ (p - n.prefix) in
    omega (
      arith,
      mul-le (i + 1) s many s (omega (arith, h.below)) (omega arith),
      size_divides w n.prefix p h.longer h.within,
    )

pub begins_within : (w : ℕ) (n : Network) (p i : ℕ) → IsNumber w n p i → low w n + i * block_size w p < 2 ^ w
begins_within w n p i h = omega (arith, distance_fits w n p i h, size_pos w p, high_fits w n h.network)

pub offset_fits : (w : ℕ) (n : Network) (p i : ℕ) → IsNumber w n p i → w ≤ 128 → i * block_size w p < 2 ^ 128
offset_fits w n p i h few = omega (arith, begins_within w n p i h, pow_mono few)

pub numbered : (w : ℕ) (n : Network) (p i x : ℕ) → x ≡ low w n + i * block_size w p
    → block_at w x p ≡ subnet_number w n p i
numbered w n p i x e =
    let s : ℕ = block_size w p in
    let at : x / s ≡ low w n / s + i = ap (λ k. k / s) (e ∙ (omega arith))
    ∙ add-mul-div_left (low w n) i (size_pos w p) in
    let begin : ℕ → Network = λ q. record { address = q * s; prefix = p } in
    ap begin at

-- a number is below 2^k exactly if nothing is left of it when k bits are shifted out
pub is_below : (n k : ℕ) → IsTrue (nat_eq (n / 2 ^ k) 0) ↔ (n < 2 ^ k)
is_below n k =
    let one : (n / 2 ^ k < 1) ↔ (n < 1 * 2 ^ k) = div-lt_iff_lt-mul (pow_pos k) in (
      (λ t. omega (arith, one.0 (omega (arith, eqb-true (n / 2 ^ k) 0 t)))),
      (λ l. eq-eqb (n / 2 ^ k) 0 (omega (arith, one.1 (omega (arith, l))))),
    )

-- a number of 128 bits is below 2^k for every k of at least 128
pub all_below : (n k : ℕ) → n < 2 ^ 128 → 128 ≤ k → n < 2 ^ k
all_below n k fits more = let power : 2 ^ 128 ≤ 2 ^ k = pow_mono more in omega (arith, fits, power)

-- if a number that is not zero is shifted by k bits and the result fits in 128 bits, k is less than 128
pub few_shifted : (n k : ℕ) → n ≢ 0 → n * 2 ^ k < 2 ^ 128 → k < 128
few_shifted zero k some fits = absurd (some refl)
few_shifted (suc n) k some fits =
    ⊎_elim (λ (l : k < 128). l)
    (λ (le : 128 ≤ k).
    let more : 2 ^ 128 ≤ 2 ^ k = pow_mono le in
    let r : k < 128 = absurd (omega (arith, fits, mul-le 1 (2 ^ k) (suc n) (2 ^ k) (omega arith) (omega arith), more))
    in r)
    (cases_lt k 128)
