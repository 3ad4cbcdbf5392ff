-- Membership, subnets and the prefix length of a mask, computed.
use Rattle.std.specs.Prelude.{◌==◌, ◌&&◌, nat_le, nat_lt, if◌then◌else◌, Bool, Option, None, Some, ℕ, ◌-◌, ◌/◌, ◌^◌}
use Rattle.std.specs.Int.Count.{count_leading_zeros}
use Rattle.ipnetwork_family.specs.Network.{Network, block_size, mask_of}

-- x is a member of the network, as a test
abbrev pub is_member : ℕ → Network → ℕ → Bool
is_member w n x = nat_lt x (2 ^ w) && (x / block_size w n.prefix == n.address / block_size w n.prefix)

-- a is a subnet of b, as a test: b fixes no more bits than a, and the address of a is a member of b
abbrev pub is_subnet : ℕ → Network → Network → Bool
is_subnet w a b = nat_le b.prefix a.prefix && is_member w b a.address

-- the prefix length of a mask, which is the number of its leading ones, or `None` if the number is not a mask
abbrev pub prefix_of_mask : ℕ → ℕ → Option ℕ
prefix_of_mask w mask = let p = count_leading_zeros w (2 ^ w - 1 - mask) in if mask == mask_of w p then Some p else None
