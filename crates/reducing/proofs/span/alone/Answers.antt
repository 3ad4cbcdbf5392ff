use Rattle.reducing.proofs.Known.{span_of_one}
use Rattle.reducing.proofs.span.alone.Goals as goal

pub returns-in-Some : goal.returns-in-Some
returns-in-Some g c = span_of_one g.N.CidrNetwork.WIDTH g.N.CidrNetwork.pair c.args.block c.in-Some.block c.in-Some.is
