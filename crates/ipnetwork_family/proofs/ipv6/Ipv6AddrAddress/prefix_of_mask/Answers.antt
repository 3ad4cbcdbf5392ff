use Rattle.ipnetwork_family.proofs.Known.{◌≡◌, ◌-◌, ◌∙◌, ap, sym, count_leading_zeros, sum_by, true≢false, Decides-eqb, slice_eq-Decides, segments_of, mask_of, ones_of_mask}
use Rattle.ipnetwork_family.proofs.ipv6.Ipv6AddrAddress.prefix_of_mask.Goals as goal

pub returns-else-eq : goal.returns-else-eq
returns-else-eq c = λ p below e.
    let is : c.segments-segments.result ≡ segments_of (mask_of 128 p) =
    c.segments-segments.ensures.segments ∙ ap segments_of e in
    let found : c.leading_ones-prefix.result ≡ p = c.leading_ones-prefix.ensures.sum
    ∙ ap (sum_by (λ segment. count_leading_zeros 16 (65535 - segment))) is
    ∙ ones_of_mask p below in
    let same : c.segments-segments.result ≡ c.mask_segments.result.now = is
    ∙ ap (λ q. segments_of (mask_of 128 q)) (sym found) ∙ sym c.mask_segments.ensures in
    true≢false (sym ((slice_eq-Decides Decides-eqb c.segments-segments.result
    c.mask_segments.result.now c.eq.result c.eq.ensures).1 same) ∙ c.if-eq.false)
