-- Networks of either family: each belongs to one of the two, and its set contains only addresses of that family.
use Rattle.std.specs.Prelude.{⊤, ◌≡◌, ◌<◌, ◌≤◌, ℕ, pos, List, ◌++◌, map, Result, Ok, IsErr, MatchResult}
use Rattle.std.specs.Hash.{HashWrites, isize, u8, u32, u128}
use Rattle.std.specs.declared.cmp.Ordering.{Ordering}
use Rattle.std.specs.declared.cmp.Ordering.TheVariants.{Less, Greater}
use Rattle.ipnetwork_addr.specs.declared.ip.IpAddr.{IpAddr}
use Rattle.ipnetwork_addr.specs.declared.ip.IpAddr.TheVariants as addresses
use Rattle.ipnetwork_family.specs.Network.{Network, IsNetwork, Member, low, high, mask_of, size_of, members}
use Rattle.ipnetwork_family.specs.Network.{IsNetworkBefore, IsNetworkAtMost, network_cmp}
use Rattle.ipnetwork_family.specs.declared.error.IpNetworkError.{IpNetworkError}
use Rattle.ipnetwork_family.specs.declared.error.IpNetworkError.TheVariants.{InvalidPrefix}
use Rattle.ipnetwork.specs.declared.ip_network.IpNetwork.{IpNetwork}
use Rattle.ipnetwork.specs.declared.ip_network.IpNetwork.TheVariants.{V4, V6}
use Rattle.ipnetwork.specs.declared.error.WrongFamily.{WrongFamily}
use Rattle.ipnetwork.specs.declared.size.NetworkSize.{NetworkSize}
use Rattle.ipnetwork.specs.declared.size.NetworkSize.TheVariants as sizes

-- the address fits in the bits of its family, and the prefix length is at most their number
abbrev pub IsIpNetwork : IpNetwork → Type 0
IsIpNetwork (V4 n) = IsNetwork 32 n
IsIpNetwork (V6 n) = IsNetwork 128 n

-- the address as given, with host bits
abbrev pub address_of : IpNetwork → IpAddr
address_of (V4 n) = addresses.V4 n.address
address_of (V6 n) = addresses.V6 n.address

-- the prefix length
abbrev pub prefix_of : IpNetwork → ℕ
prefix_of (V4 n) = n.prefix
prefix_of (V6 n) = n.prefix

-- the mask of the prefix length, in the network's family
abbrev pub ip_mask_of : IpNetwork → IpAddr
ip_mask_of (V4 n) = addresses.V4 (mask_of 32 n.prefix)
ip_mask_of (V6 n) = addresses.V6 (mask_of 128 n.prefix)

-- the least and the greatest address of the set
abbrev pub ip_low : IpNetwork → IpAddr
ip_low (V4 n) = addresses.V4 (low 32 n)
ip_low (V6 n) = addresses.V6 (low 128 n)

abbrev pub ip_high : IpNetwork → IpAddr
ip_high (V4 n) = addresses.V4 (high 32 n)
ip_high (V6 n) = addresses.V6 (high 128 n)

-- the number of members, but one less at prefix length 0
abbrev pub ip_size : IpNetwork → NetworkSize
ip_size (V4 n) = sizes.V4 (size_of 32 n)
ip_size (V6 n) = sizes.V6 (size_of 128 n)

-- the members in ascending order
abbrev pub ip_members : IpNetwork → List IpAddr
ip_members (V4 n) = map addresses.V4 (members 32 n)
ip_members (V6 n) = map addresses.V6 (members 128 n)

-- the address is in the network's set; no address of the other family is
abbrev pub IpMember : IpNetwork → IpAddr → Type 0
IpMember (V4 n) (addresses.V4 a) = Member 32 n a
IpMember (V4 n) (addresses.V6 a) = ⊥
IpMember (V6 n) (addresses.V4 a) = ⊥
IpMember (V6 n) (addresses.V6 a) = Member 128 n a

-- each member of a is a member of b
abbrev pub IpSubnet : IpNetwork → IpNetwork → Type 0
IpSubnet a b = (x : IpAddr) → IpMember a x → IpMember b x

-- some address is a member of both
abbrev pub IpOverlap : IpNetwork → IpNetwork → Type 0
IpOverlap a b = (x : IpAddr) × IpMember a x × IpMember b x

-- the network is an IPv4 network, or an IPv6 network
abbrev pub IsV4 : IpNetwork → Type 0
IsV4 (V4 n) = ⊤
IsV4 (V6 n) = ⊥

abbrev pub IsV6 : IpNetwork → Type 0
IsV6 (V4 n) = ⊥
IsV6 (V6 n) = ⊤

-- the number of bits of an address of this family
abbrev pub width_of : IpAddr → ℕ
width_of (addresses.V4 a) = 32
width_of (addresses.V6 a) = 128

-- the network with this address and prefix length
abbrev pub made_of : IpAddr → ℕ → IpNetwork
made_of (addresses.V4 a) p = V4 (record { address = a; prefix = p })
made_of (addresses.V6 a) p = V6 (record { address = a; prefix = p })

-- what making a network returns: the network, or `InvalidPrefix` if the prefix length exceeds the width of the address
abbrev pub Makes : IpAddr → ℕ → Result IpNetwork IpNetworkError → Type 0
Makes ip prefix result =
    MatchResult result (λ n. (n ≡ made_of ip prefix) × (prefix ≤ width_of ip))
    (λ fault. (fault ≡ InvalidPrefix) × (width_of ip < prefix))

-- the address is its family's mask of this prefix length
abbrev pub IsIpMask : IpAddr → ℕ → Type 0
IsIpMask (addresses.V4 mask) p = (p ≤ 32) × (mask ≡ mask_of 32 p)
IsIpMask (addresses.V6 mask) p = (p ≤ 128) × (mask ≡ mask_of 128 p)

-- what converting a mask returns: its prefix length, or `InvalidPrefix` if the address is not a mask
abbrev pub GivesMaskPrefix : IpAddr → Result ℕ IpNetworkError → Type 0
GivesMaskPrefix mask result =
    MatchResult result (IsIpMask mask) (λ fault. (fault ≡ InvalidPrefix) × ((p : ℕ) → ¬ (IsIpMask mask p)))

-- what making a network with a mask returns: the network with the mask's prefix length, or `InvalidPrefix` if the
-- address is not a mask or the prefix length exceeds the width
abbrev pub MakesWithMask : IpAddr → IpAddr → Result IpNetwork IpNetworkError → Type 0
MakesWithMask ip mask result =
    MatchResult result (λ n. (n ≡ made_of ip (prefix_of n)) × (prefix_of n ≤ width_of ip) × IsIpMask mask (prefix_of n))
    (λ fault. (fault ≡ InvalidPrefix) × ((p : ℕ) → IsIpMask mask p → width_of ip < p))

-- what converting to a network of one family returns: the network itself, or `WrongFamily` if it is of the other
abbrev pub TakesV4 : IpNetwork → Result Network WrongFamily → Type 0
TakesV4 (V4 n) result = result ≡ Ok n
TakesV4 (V6 n) result = IsErr result

abbrev pub TakesV6 : IpNetwork → Result Network WrongFamily → Type 0
TakesV6 (V4 n) result = IsErr result
TakesV6 (V6 n) result = result ≡ Ok n

-- a comes before b: IPv4 before IPv6, and within a family by address, then by prefix length
abbrev pub IsIpBefore : IpNetwork → IpNetwork → Type 0
IsIpBefore (V4 a) (V4 b) = IsNetworkBefore a b
IsIpBefore (V4 a) (V6 b) = ⊤
IsIpBefore (V6 a) (V4 b) = ⊥
IsIpBefore (V6 a) (V6 b) = IsNetworkBefore a b

-- a comes before b or equals it
abbrev pub IsIpAtMost : IpNetwork → IpNetwork → Type 0
IsIpAtMost (V4 a) (V4 b) = IsNetworkAtMost a b
IsIpAtMost (V4 a) (V6 b) = ⊤
IsIpAtMost (V6 a) (V4 b) = ⊥
IsIpAtMost (V6 a) (V6 b) = IsNetworkAtMost a b

-- how a compares with b: IPv4 before IPv6, and within a family by address, then by prefix length
abbrev pub ip_network_cmp : IpNetwork → IpNetwork → Ordering
ip_network_cmp (V4 a) (V4 b) = network_cmp a b
ip_network_cmp (V4 a) (V6 b) = Less
ip_network_cmp (V6 a) (V4 b) = Greater
ip_network_cmp (V6 a) (V6 b) = network_cmp a b

-- what a network feeds to a hasher: its family, as 0 or 1, its address and its prefix length
abbrev pub ip_network_writes : IpNetwork → HashWrites
ip_network_writes (V4 n) = isize (pos 0) ++ u32 n.address ++ u8 n.prefix
ip_network_writes (V6 n) = isize (pos 1) ++ u128 n.address ++ u8 n.prefix

-- neither set is a subset of the other, and they have no address in common
pub record AreApart (a b : IpNetwork) : Type 0 where
  pub not_inside : ¬ (IpSubnet a b)
  pub not_around : ¬ (IpSubnet b a)
  pub no_overlap : ¬ (IpOverlap a b)
