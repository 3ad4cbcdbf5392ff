-- How many hosts a block has, and the smallest block that has enough.
use Rattle.std.specs.Prelude.{◌≡◌, ℕ, ◌-◌, ◌==◌, ◌<◌, ◌≤◌, List, length, get_or, nat_lt, if◌then◌else◌}
use Rattle.ipnetwork_family.specs.Network.{block_size}

-- the addresses of a block that no host may have: of IPv4 the first and the last, of IPv6 the first; none of a block of
-- one or two addresses
abbrev pub reserved : ℕ → ℕ → ℕ
reserved w p = if nat_lt (w - p) 2 then 0 else if w == 32 then 2 else 1

-- the number of addresses that hosts of a block of prefix length p may have
abbrev pub host_count : ℕ → ℕ → ℕ
host_count w p = block_size w p - reserved w p

-- the smallest blocks that have this many hosts are those of prefix length p
pub record IsLengthFor (w hosts p : ℕ) : Type 0 where
  pub fits : p ≤ w
  pub room : hosts ≤ host_count w p
  pub longest : (q : ℕ) → p < q → q ≤ w → host_count w q < hosts

-- no block has this many hosts
abbrev pub NoLengthFor : ℕ → ℕ → Type 0
NoLengthFor w hosts = (p : ℕ) → p ≤ w → host_count w p < hosts

-- each length is that for the number at its index
pub record AreLengthsFor (w : ℕ) (numbers prefixes : List ℕ) : Type 0 where
  pub one_each : length prefixes ≡ length numbers
  pub lengths : (i : ℕ) → i < length numbers → IsLengthFor w (get_or numbers i 0) (get_or prefixes i 0)
