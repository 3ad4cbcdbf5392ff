use Rattle.reducing.proofs.Known.{sym, ap, ◌∙◌, least, max_is, nothing_in}
use Rattle.reducing.proofs.span.least.Goals as goal

pub returns-in-None : goal.returns-in-None
returns-in-None g c =
    λ list h. sym max_is ∙ sym (ap (least g.N.CidrNetwork.WIDTH)
    (nothing_in g.N.CidrNetwork.WIDTH g.N.CidrNetwork.pair list c.args.span c.in-None.is h))
