use Rattle.std.proofs.Common.{◌≡◌}
use Rattle.ipnetwork_addr.specs.declared.ip.IpAddr.TheVariants.{V4, V6}
use Rattle.ipnetwork_law_uses.proofs.address_texts.canonical_ip_texts_differ.Goals as goal

pub returns-clause-v4 : goal.returns-clause-v4
returns-clause-v4 c =
    λ a b l m n f.
    let e : V4 a ≡ V4 b = (c.canonical_ip_is_one_to_one.ensures (V4 a) (V4 b) l m).1 f in
    let same : a ≡ b = cc in
    n same

pub returns-clause-v6 : goal.returns-clause-v6
returns-clause-v6 c =
    λ a b l m n f.
    let e : V6 a ≡ V6 b = (c.canonical_ip_is_one_to_one.ensures (V6 a) (V6 b) l m).1 f in
    let same : a ≡ b = cc in
    n same

pub returns-clause-both : goal.returns-clause-both
returns-clause-both c =
    λ a b l m f.
    let e : V4 a ≡ V6 b = (c.canonical_ip_is_one_to_one.ensures (V4 a) (V6 b) l m).1 f in
    cc
