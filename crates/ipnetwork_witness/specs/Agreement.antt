-- When an address of this library equals one of std, and when two readers agree.
use Rattle.std.specs.Prelude.{⊤, ℕ, ◌^◌, ◌<◌, Result, Ok, Err}
use Rattle.std.specs.declared.net.ipv4_addr.Ipv4Addr.{Ipv4Addr}
use Rattle.std.specs.declared.net.ipv6_addr.Ipv6Addr.{Ipv6Addr}
use Rattle.std.specs.declared.net.ip_addr.IpAddr as std
use Rattle.std.specs.declared.net.ip_addr.IpAddr.TheVariants as std_family
use Rattle.std.specs.Net.Addr.{IsIpv4OfBits, IsIpv6OfBits}
use Rattle.ipnetwork_addr.specs.declared.ip.IpAddr.{IpAddr}
use Rattle.ipnetwork_addr.specs.declared.ip.IpAddr.TheVariants.{V4, V6}

-- an address of 32 bits and std's address with the same bits
abbrev pub SameV4 : ℕ → Ipv4Addr → Type 0
SameV4 ours theirs = (ours < 2 ^ 32) × IsIpv4OfBits theirs ours

-- an address of 128 bits and std's address with the same bits
abbrev pub SameV6 : ℕ → Ipv6Addr → Type 0
SameV6 ours theirs = (ours < 2 ^ 128) × IsIpv6OfBits theirs ours

-- an address of either family and std's address of that family with the same bits
abbrev pub SameIp : IpAddr → std.IpAddr → Type 0
SameIp (V4 ours) (std_family.V4 theirs) = SameV4 ours theirs
SameIp (V4 ours) (std_family.V6 theirs) = ⊥
SameIp (V6 ours) (std_family.V4 theirs) = ⊥
SameIp (V6 ours) (std_family.V6 theirs) = SameV6 ours theirs

-- two readers agree: both return the same address, or both return an error
abbrev pub Agree : {A B E F : Type 0} → (A → B → Type 0) → Result A E → Result B F → Type 0
Agree Same (Ok ours) (Ok theirs) = Same ours theirs
Agree Same (Ok ours) (Err error) = ⊥
Agree Same (Err error) (Ok theirs) = ⊥
Agree Same (Err error) (Err other) = ⊤
