-- The blocks of one prefix length within a network.
use Rattle.std.specs.Prelude.{ℕ, ◌+◌, ◌-◌, ◌*◌, ◌/◌, ◌^◌, List, map}
use Rattle.ipnetwork_family.specs.Network.{Network, block_size, low, count_up}

-- the block of prefix length p with number i, counted from the first block of the address space: it begins at i times
-- the block size
abbrev pub block_number : ℕ → ℕ → ℕ → Network
block_number w p i = record { address = i * block_size w p; prefix = p }

-- the 2 ^ (p - n.prefix) blocks of prefix length p within the network, in ascending order
abbrev pub subnets_of : ℕ → Network → ℕ → List Network
subnets_of w n p = map (block_number w p) (count_up (low w n / block_size w p) (2 ^ (p - n.prefix)))

-- block number i of these, counted from 0
abbrev pub subnet_number : ℕ → Network → ℕ → ℕ → Network
subnet_number w n p i = block_number w p (low w n / block_size w p + i)
