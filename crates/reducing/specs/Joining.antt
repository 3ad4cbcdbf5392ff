-- The block that two blocks are joined into, and how many of its addresses are in neither.
use Rattle.std.specs.Prelude.{ℕ, zero, suc, ◌-◌, ◌/◌, ◌==◌, if◌then◌else◌, min}
use Rattle.ipnetwork_family.specs.Network.{Network, low, block_at, block_size}

-- how many of their first bits two numbers of w bits share
unfoldable pub shared : ℕ → ℕ → ℕ → ℕ
shared zero x y = 0
shared (suc v) x y = (if x == y then suc v else shared v (x / 2) (y / 2))

-- the smallest block that contains both networks
unfoldable pub joined : ℕ → Network → Network → Network
joined w a b = block_at w (low w a) (min (min (shared w (low w a) (low w b)) a.prefix) b.prefix)

-- the number of addresses of that block that are in neither of the two networks, which share none
unfoldable pub others : ℕ → Network → Network → ℕ
others w a b = block_size w (joined w a b).prefix - block_size w a.prefix - block_size w b.prefix
