-- How many leading bits two addresses of w bits share, and how many trailing zeros an address has.
use Rattle.std.specs.Prelude.{◌≡◌, ℕ, ◌/◌, ◌%◌, ◌^◌, ◌≤◌}
use Rattle.ipnetwork_family.specs.Network.{block_size}

-- the first p bits of a and b agree, and p is the greatest such number
pub record SharesBits (w a b p : ℕ) : Type 0 where
  pub within : p ≤ w
  pub agree : a / block_size w p ≡ b / block_size w p
  pub greatest : (q : ℕ) → q ≤ w → a / block_size w q ≡ b / block_size w q → q ≤ p

-- 2^k divides n, and no greater power of 2 up to 2^w does
pub record EndsInZeros (w n k : ℕ) : Type 0 where
  pub within : k ≤ w
  pub divides : n % 2 ^ k ≡ 0
  pub greatest : (j : ℕ) → j ≤ w → n % 2 ^ j ≡ 0 → j ≤ k
