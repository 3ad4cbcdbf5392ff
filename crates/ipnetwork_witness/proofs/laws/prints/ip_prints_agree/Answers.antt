use Rattle.ipnetwork_witness.proofs.Known.{Ipv4Addr, Ipv6Addr, canonical_v4, canonical_v6, ◌≡◌, ℕ, ip_text, IpAddr, V4, V6, canonical_ip, SameV4, SameV6, SameIp}
use Rattle.std.specs.declared.net.ip_addr.IpAddr as std
use Rattle.std.specs.declared.net.ip_addr.IpAddr.TheVariants as std_family
use Rattle.ipnetwork_witness.proofs.laws.prints.ip_prints_agree.Goals as goal

pub returns : goal.returns
returns c = go
  where
    go : (ours : IpAddr) (theirs : std.IpAddr) → SameIp ours theirs → canonical_ip ours ≡ ip_text theirs
    go (V4 a) (std_family.V4 b) same = c.v4_prints_agree.ensures a b same
    go (V4 a) (std_family.V6 b) same = absurd same
    go (V6 a) (std_family.V4 b) same = absurd same
    go (V6 a) (std_family.V6 b) same = c.v6_prints_agree.ensures a b same

-- examples in either family
pub v4_is_printed : goal.returns → goal.After-v6_prints_agree → (a : ℕ) (b : Ipv4Addr) → SameV4 a b
    → canonical_v4 a ≡ ip_text (std_family.V4 b)
v4_is_printed law c a b = law c (V4 a) (std_family.V4 b)

pub v6_is_printed : goal.returns → goal.After-v6_prints_agree → (a : ℕ) (b : Ipv6Addr) → SameV6 a b
    → canonical_v6 a ≡ ip_text (std_family.V6 b)
v6_is_printed law c a b = law c (V6 a) (std_family.V6 b)
