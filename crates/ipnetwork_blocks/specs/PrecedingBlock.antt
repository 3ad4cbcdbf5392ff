-- The block before a block.
use Rattle.std.specs.Prelude.{ℕ, ◌-◌}
use Rattle.ipnetwork_family.specs.Network.{Network, low, block_size}

-- the block of the same prefix length that ends just before the lowest address of the network
abbrev pub preceding_block : ℕ → Network → Network
preceding_block w n = record { address = low w n - block_size w n.prefix; prefix = n.prefix }
