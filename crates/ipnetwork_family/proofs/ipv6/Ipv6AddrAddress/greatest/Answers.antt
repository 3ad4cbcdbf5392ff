use Rattle.ipnetwork_family.proofs.Known.{ap₂, ◌∙◌, ◌-◌, bit_or, made_of, number_of_mask, greatest_under}
use Rattle.ipnetwork_family.proofs.ipv6.Ipv6AddrAddress.greatest.Goals as goal

pub returns : goal.returns
returns c =
    c.from.ensures
    ∙ c.filled.ensures
    ∙ ap₂ (λ a m. bit_or a (340282366920938463463374607431768211455 - m)) (made_of
    c.segments.result c.args.self c.segments.ensures.bound c.segments.ensures.segments)
    (number_of_mask c.args.prefix c.mask_segments.result.now c.requires c.mask_segments.ensures)
    ∙ greatest_under c.args.self c.args.prefix c.requires
