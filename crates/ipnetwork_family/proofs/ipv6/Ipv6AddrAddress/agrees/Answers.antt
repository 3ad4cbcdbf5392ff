use Rattle.ipnetwork_family.proofs.Known.{made_of, number_of_mask, agree_under}
use Rattle.ipnetwork_family.proofs.ipv6.Ipv6AddrAddress.agrees.Goals as goal

pub returns : goal.returns
returns c =
    let whole = agree_under c.args.self c.args.other c.args.prefix c.requires
    c.segments.ensures.bound c.segments-2.ensures.bound in
    let asked = rw (
      made_of c.segments.result c.args.self c.segments.ensures.bound c.segments.ensures.segments,
      made_of c.segments-2.result c.args.other c.segments-2.ensures.bound
          c.segments-2.ensures.segments,
      number_of_mask c.args.prefix c.mask_segments.result.now c.requires c.mask_segments.ensures,
    ) at c.agree.ensures in
    ((λ t. whole.0 (asked.0 t)), (λ e. asked.1 (whole.1 e)))
