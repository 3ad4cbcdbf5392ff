use Rattle.std.proofs.Common.{◌∙◌, refl, sym}
use Rattle.ipnetwork_addr.specs.Computed.Ipv6Canonical.{canonical_v6}
use Rattle.ipnetwork_law_uses.proofs.address_texts.canonical_v6_is_the_computed_one.Goals as goal

pub returns-clause-one : goal.returns-clause-one
returns-clause-one c =
    λ text other a h k.
    (c.canonical_v6_is_one_text.ensures text a).0 h ∙ sym ((c.canonical_v6_is_one_text.ensures other a).0 k)

pub returns-clause-computed : goal.returns-clause-computed
returns-clause-computed c = λ a. (c.canonical_v6_is_one_text.ensures (canonical_v6 a) a).1 refl
