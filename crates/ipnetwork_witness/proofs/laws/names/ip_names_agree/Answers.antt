use Rattle.ipnetwork_witness.proofs.Known.{Ipv4Addr, Ipv6Addr, NamesV4, NamesV6, ◌↔◌, ℕ, List, IsIpText, IpAddr, V4, V6, NamesIp, SameV4, SameV6, SameIp}
use Rattle.std.specs.declared.net.ip_addr.IpAddr as std
use Rattle.std.specs.declared.net.ip_addr.IpAddr.TheVariants as std_family
use Rattle.ipnetwork_witness.proofs.laws.names.ip_names_agree.Goals as goal

pub returns : goal.returns
returns c = go
  where
    go : (text : List ℕ) (ours : IpAddr) (theirs : std.IpAddr) → SameIp ours theirs
        → NamesIp text ours ↔ IsIpText text theirs
    go text (V4 a) (std_family.V4 b) same = c.v4_names_agree.ensures text a b same
    go text (V4 a) (std_family.V6 b) same = absurd same
    go text (V6 a) (std_family.V4 b) same = absurd same
    go text (V6 a) (std_family.V6 b) same = c.v6_names_agree.ensures text a b same

-- examples in either family and direction
pub v6_is_spelled : goal.returns → goal.After-v6_names_agree → (text : List ℕ) (a : ℕ) (b : Ipv6Addr) → SameV6 a b
    → NamesV6 text a → IsIpText text (std_family.V6 b)
v6_is_spelled law c text a b same = (law c text (V6 a) (std_family.V6 b) same).0

pub v4_is_named : goal.returns → goal.After-v6_names_agree → (text : List ℕ) (a : ℕ) (b : Ipv4Addr) → SameV4 a b
    → IsIpText text (std_family.V4 b) → NamesV4 text a
v4_is_named law c text a b same = (law c text (V4 a) (std_family.V4 b) same).1
