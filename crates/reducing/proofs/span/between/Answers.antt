use Rattle.reducing.proofs.Known.{sym, inl, inr, max_is, nothing_in}
use Rattle.reducing.proofs.span.between.Goals as goal

pub returns-in-None-back : goal.returns-in-None-back
returns-in-None-back g c =
    λ first second f s. inr
    (sym max_is, inr (nothing_in g.N.CidrNetwork.WIDTH g.N.CidrNetwork.pair second c.args.back c.in-None-back.is s))

pub returns-in-None : goal.returns-in-None
returns-in-None g c =
    λ first second f s. inr
    (sym max_is, inl (nothing_in g.N.CidrNetwork.WIDTH g.N.CidrNetwork.pair first c.args.front c.in-None.is f))
