use Rattle.std.proofs.Common.{◌≡◌}
use Rattle.ipnetwork_addr.specs.declared.ip.IpAddr.TheVariants.{V4, V6}
use Rattle.ipnetwork_law_uses.proofs.address_texts.ip_text_is_of_no_other.Goals as goal

pub returns-clause-v4 : goal.returns-clause-v4
returns-clause-v4 c =
    λ text a b h n k.
    let e : V4 a ≡ V4 b = c.ip_text_names_one.ensures text (V4 a) (V4 b) h k in
    let same : a ≡ b = cc in
    n same

pub returns-clause-v6 : goal.returns-clause-v6
returns-clause-v6 c =
    λ text a b h n k.
    let e : V6 a ≡ V6 b = c.ip_text_names_one.ensures text (V6 a) (V6 b) h k in
    let same : a ≡ b = cc in
    n same

pub returns-clause-both : goal.returns-clause-both
returns-clause-both c =
    λ text a b h k.
    let e : V4 a ≡ V6 b = c.ip_text_names_one.ensures text (V4 a) (V6 b) h k in
    cc
