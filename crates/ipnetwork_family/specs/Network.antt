-- Networks of addresses of w bits, as numbers: 32 for IPv4 and 128 for IPv6 (RFC 4632, section 3.1; RFC 4291,
-- section 2.3).
use Rattle.std.specs.Prelude.{◌≡◌, ◌≢◌, ℕ, ◌+◌, ◌-◌, ◌*◌, ◌/◌, ◌^◌, ◌<◌, ◌≤◌, ◌⊎◌, min, List}
use Rattle.std.specs.List.{range_with_len}
use Rattle.std.specs.declared.cmp.Ordering.{Ordering}
use Rattle.std.specs.Ordering.{nat_cmp, ordering_then}

-- an address with its host bits, and the prefix length: how many of its first bits are fixed
pub record Network : Type 0 where
  pub address : ℕ
  pub prefix : ℕ

-- an address of w bits, and a prefix length of at most w
pub record IsNetwork (w : ℕ) (n : Network) : Type 0 where
  pub address_fits : n.address < 2 ^ w
  pub prefix_fits : n.prefix ≤ w

-- the number of addresses of w bits that have the same first p bits
abbrev pub block_size : ℕ → ℕ → ℕ
block_size w p = 2 ^ (w - p)

-- x is an address of the network's set: it agrees with the network's address in the fixed bits
abbrev pub Member : ℕ → Network → ℕ → Type 0
Member w n x = (x < 2 ^ w) × (x / block_size w n.prefix ≡ n.address / block_size w n.prefix)

-- the mask of a prefix length: the number of w bits whose first p are ones
abbrev pub mask_of : ℕ → ℕ → ℕ
mask_of w p = 2 ^ w - block_size w p

-- the least address of the set: the network's address with its host bits cleared
abbrev pub low : ℕ → Network → ℕ
low w n = n.address / block_size w n.prefix * block_size w n.prefix

-- the greatest address of the set: the least plus the size of the block, minus one
abbrev pub high : ℕ → Network → ℕ
high w n = low w n + block_size w n.prefix - 1

-- the network without host bits that has the same set
abbrev pub block_of : ℕ → Network → Network
block_of w n = record { address = low w n; prefix = n.prefix }

-- the block of prefix length p that contains x
abbrev pub block_at : ℕ → ℕ → ℕ → Network
block_at w x p = block_of w (record { address = x; prefix = p })

-- the host bits, those after the prefix length, are all 0
abbrev pub HostBitsAreZero : ℕ → Network → Type 0
HostBitsAreZero w n = n.address ≡ low w n

-- a block: a network without host bits
pub record IsCidrBlock (w : ℕ) (n : Network) : Type 0 where
  pub network : IsNetwork w n
  pub block : HostBitsAreZero w n

-- count consecutive numbers, beginning with start
unfoldable pub count_up : ℕ → ℕ → List ℕ
count_up start count = range_with_len start count

-- the members in ascending order
abbrev pub members : ℕ → Network → List ℕ
members w n = count_up (low w n) (block_size w n.prefix)

-- the number of members, or one less if that needs w + 1 bits
abbrev pub size_of : ℕ → Network → ℕ
size_of w n = min (block_size w n.prefix) (2 ^ w - 1)

-- each member of a is a member of b
abbrev pub Subnet : ℕ → Network → Network → Type 0
Subnet w a b = (x : ℕ) → Member w a x → Member w b x

-- some address is a member of both
abbrev pub Overlap : ℕ → Network → Network → Type 0
Overlap w a b = (x : ℕ) × Member w a x × Member w b x

-- a comes before b in the order by address, then by prefix length
abbrev pub IsNetworkBefore : Network → Network → Type 0
IsNetworkBefore a b = (a.address < b.address) ⊎ ((a.address ≡ b.address) × (a.prefix < b.prefix))

-- a comes before b, or is b
abbrev pub IsNetworkAtMost : Network → Network → Type 0
IsNetworkAtMost a b = (a.address < b.address) ⊎ ((a.address ≡ b.address) × (a.prefix ≤ b.prefix))

-- how a and b compare in the order by address, then by prefix length
abbrev pub network_cmp : Network → Network → Ordering
network_cmp a b = ordering_then (nat_cmp a.address b.address) (nat_cmp a.prefix b.prefix)

-- the number is not a mask
abbrev pub IsNoMask : ℕ → ℕ → Type 0
IsNoMask w mask = (p : ℕ) → p ≤ w → mask ≢ mask_of w p
