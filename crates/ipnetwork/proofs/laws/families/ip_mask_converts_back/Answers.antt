use Rattle.ipnetwork.proofs.Known.{subst, IpAddr, GivesMaskPrefix, mask_converted}
use Rattle.ipnetwork.proofs.laws.families.ip_mask_converts_back.Goals as goal

pub returns : goal.returns
returns c =
    let r = c.ip_mask_to_prefix.result in
    mask_converted c.mask_conversion.ensures.converted c.args.network r c.prefix.ensures.network
    (subst (λ (m : IpAddr). GivesMaskPrefix m r) c.mask.ensures c.ip_mask_to_prefix.ensures)
