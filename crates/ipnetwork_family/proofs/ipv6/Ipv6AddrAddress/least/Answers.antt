use Rattle.ipnetwork_family.proofs.Known.{ap₂, ◌∙◌, bit_and, made_of, number_of_mask, least_under}
use Rattle.ipnetwork_family.proofs.ipv6.Ipv6AddrAddress.least.Goals as goal

pub returns : goal.returns
returns c =
    c.from.ensures
    ∙ c.kept.ensures
    ∙ ap₂ bit_and (made_of c.segments.result c.args.self c.segments.ensures.bound
    c.segments.ensures.segments)
    (number_of_mask c.args.prefix c.mask_segments.result.now c.requires c.mask_segments.ensures)
    ∙ least_under c.args.self c.args.prefix c.requires c.segments.ensures.bound
