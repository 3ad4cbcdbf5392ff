use Rattle.reducing.proofs.Known.{arith, span_followed}
use Rattle.reducing.proofs.span.followed.Goals as goal

pub returns-in-Some-back : goal.returns-in-Some-back
returns-in-Some-back g c =
    λ first second f s. span_followed g.N.CidrNetwork.WIDTH g.N.CidrNetwork.pair first second c.args.front c.args.back
    c.in-Some.front c.in-Some-back.back
    c.min-in-Some-back.result c.in-Some.is c.in-Some-back.is
    (omega (arith, c.min.ensures, c.min-in-Some-back.ensures, c.others.ensures)) f s
