use Rattle.ipnetwork_family.proofs.Known.{ℕ, subst, GivesPrefixOfMask}
use Rattle.ipnetwork_family.proofs.laws.conversions.v6_mask_converts_back.Goals as goal

pub returns : goal.returns
returns c =
    let r = c.ipv6_mask_to_prefix.result in
    (c.mask_conversion.ensures.converted 128 c.args.network.prefix r c.prefix.ensures.network.prefix_fits).0
    (subst (λ (m : ℕ). GivesPrefixOfMask 128 m r) c.mask.ensures c.ipv6_mask_to_prefix.ensures)
