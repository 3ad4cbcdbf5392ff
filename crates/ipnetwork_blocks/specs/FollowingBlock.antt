-- The block after a block.
use Rattle.std.specs.Prelude.{ℕ, ◌+◌}
use Rattle.ipnetwork_family.specs.Network.{Network, high}

-- the block of the same prefix length that begins just after the highest address of the network
abbrev pub following_block : ℕ → Network → Network
following_block w n = record { address = high w n + 1; prefix = n.prefix }
