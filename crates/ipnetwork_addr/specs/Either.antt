-- Addresses of either family: their texts, their order and how they are hashed.
use Rattle.std.specs.Prelude.{⊤, ℕ, ◌/◌, ◌%◌, ◌^◌, ◌<◌, ◌≤◌, ◌==◌, if◌then◌else◌, List, ◌++◌, pos}
use Rattle.std.specs.Hash.{HashWrites, isize, u32, u128}
use Rattle.std.specs.Ordering.{nat_cmp}
use Rattle.std.specs.declared.cmp.Ordering.{Ordering}
use Rattle.std.specs.declared.cmp.Ordering.TheVariants.{Less, Greater}
use Rattle.ipnetwork_addr.specs.declared.ip.IpAddr.{IpAddr}
use Rattle.ipnetwork_addr.specs.declared.ip.IpAddr.TheVariants.{V4, V6}
use Rattle.ipnetwork_addr.specs.Ipv4Text.{NamesV4, canonical_v4}
use Rattle.ipnetwork_addr.specs.Ipv6Text.{NamesV6}
use Rattle.ipnetwork_addr.specs.Computed.Ipv6Canonical.{canonical_v6}

-- the text names the address
abbrev pub NamesIp : List ℕ → IpAddr → Type 0
NamesIp text (V4 address) = NamesV4 text address
NamesIp text (V6 address) = NamesV6 text address

-- the canonical text of an address
abbrev pub canonical_ip : IpAddr → List ℕ
canonical_ip (V4 address) = canonical_v4 address
canonical_ip (V6 address) = canonical_v6 address

-- the IPv4 address in the low 32 bits if the bits above them are 0xffff, that is, if the address is in `::ffff:0:0/96`
-- (RFC 4291, section 2.5.5.2); otherwise the address itself
abbrev pub unmapped : IpAddr → IpAddr
unmapped (V4 address) = V4 address
unmapped (V6 address) = if address / 2 ^ 32 == 0xffff then V4 (address % 2 ^ 32) else V6 address

-- the number fits in the bits of its family
abbrev pub FitsIp : IpAddr → Type 0
FitsIp (V4 address) = address < 2 ^ 32
FitsIp (V6 address) = address < 2 ^ 128

-- the first address is before the second: by number within a family, and IPv4 before IPv6
abbrev pub IsAddrBefore : IpAddr → IpAddr → Type 0
IsAddrBefore (V4 a) (V4 b) = a < b
IsAddrBefore (V4 a) (V6 b) = ⊤
IsAddrBefore (V6 a) (V4 b) = ⊥
IsAddrBefore (V6 a) (V6 b) = a < b

-- the first address is before the second or equal to it
abbrev pub IsAddrAtMost : IpAddr → IpAddr → Type 0
IsAddrAtMost (V4 a) (V4 b) = a ≤ b
IsAddrAtMost (V4 a) (V6 b) = ⊤
IsAddrAtMost (V6 a) (V4 b) = ⊥
IsAddrAtMost (V6 a) (V6 b) = a ≤ b

-- how two addresses compare: by number within a family, and IPv4 before IPv6
abbrev pub ip_cmp : IpAddr → IpAddr → Ordering
ip_cmp (V4 a) (V4 b) = nat_cmp a b
ip_cmp (V4 a) (V6 b) = Less
ip_cmp (V6 a) (V4 b) = Greater
ip_cmp (V6 a) (V6 b) = nat_cmp a b

-- what an address feeds to a hasher: its family, as 0 or 1, and its number
abbrev pub ip_writes : IpAddr → HashWrites
ip_writes (V4 address) = isize (pos 0) ++ u32 address
ip_writes (V6 address) = isize (pos 1) ++ u128 address
