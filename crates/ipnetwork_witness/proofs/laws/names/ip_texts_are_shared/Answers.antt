use Rattle.ipnetwork_witness.proofs.Known.{Ipv4Addr, NamesV6, ℕ, List, IsIpText, IpAddr, V4, V6, NamesIp, SameIp}
use Rattle.std.specs.declared.net.ip_addr.IpAddr as std
use Rattle.std.specs.declared.net.ip_addr.IpAddr.TheVariants as std_family
use Rattle.ipnetwork_witness.proofs.laws.names.ip_texts_are_shared.Goals as goal

pub returns-clause-ours : goal.returns-clause-ours
returns-clause-ours c = go
  where
    go : (text : List ℕ) (ours : IpAddr) → NamesIp text ours → (theirs : std.IpAddr) × SameIp ours theirs
        × IsIpText text theirs
    go text (V4 a) h = let (b, same, spelled) = c.v4_texts_are_shared.ensures.ours text a h in
        (std_family.V4 b, same, spelled)
    go text (V6 a) h = let (b, same, spelled) = c.v6_texts_are_shared.ensures.ours text a h in
        (std_family.V6 b, same, spelled)

pub returns-clause-theirs : goal.returns-clause-theirs
returns-clause-theirs c = go
  where
    go : (text : List ℕ) (theirs : std.IpAddr) → IsIpText text theirs → (ours : IpAddr) × SameIp ours theirs
        × NamesIp text ours
    go text (std_family.V4 b) h = let (a, same, named) = c.v4_texts_are_shared.ensures.theirs text b h in
        (V4 a, same, named)
    go text (std_family.V6 b) h = let (a, same, named) = c.v6_texts_are_shared.ensures.theirs text b h in
        (V6 a, same, named)

-- examples in either family
pub v6_is_spelled : goal.returns-clause-ours → goal.After-v6_texts_are_shared → (text : List ℕ) (a : ℕ) → NamesV6 text a
    → (theirs : std.IpAddr) × SameIp (V6 a) theirs × IsIpText text theirs
v6_is_spelled law c text a = law c text (V6 a)

pub v4_is_named : goal.returns-clause-theirs → goal.After-v6_texts_are_shared → (text : List ℕ) (b : Ipv4Addr)
    → IsIpText text (std_family.V4 b) → (ours : IpAddr) × SameIp ours (std_family.V4 b) × NamesIp text ours
v4_is_named law c text b = law c text (std_family.V4 b)
