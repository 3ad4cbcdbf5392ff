-- Blocks of one length in each family.
use Rattle.std.specs.Prelude.{ℕ, min, nat_le, if◌then◌else◌}
use Rattle.ipnetwork.specs.declared.ip_network.IpNetwork.{IpNetwork}
use Rattle.ipnetwork.specs.declared.ip_network.IpNetwork.TheVariants as families
use Rattle.ipnetwork_family.specs.Network.{Network, block_at}
use Rattle.cidr_join.specs.declared.found.Found.{Found}
use Rattle.cidr_join.specs.declared.found.Found.TheVariants as founds
use Rattle.cidr_join.specs.declared.lengths.Lengths.{Lengths}

-- the block of this prefix length that contains a network, without host bits; none does if the network's prefix length
-- is less
abbrev pub block_over : (Network → IpNetwork) → ℕ → Network → ℕ → Found
block_over either w n length =
    if nat_le length n.prefix then founds.Network (either (block_at w n.address length)) else founds.Nothing

-- the block of the length for the network's family; a length greater than the width counts as the width
abbrev pub block_in : Lengths → IpNetwork → Found
block_in lengths (families.V4 n) = block_over (λ block. families.V4 block) 32 n (min lengths.v4 32)
block_in lengths (families.V6 n) = block_over (λ block. families.V6 block) 128 n (min lengths.v6 128)
