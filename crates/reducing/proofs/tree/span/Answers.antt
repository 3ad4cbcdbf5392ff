use Rattle.reducing.proofs.Known.{root_span}
use Rattle.reducing.proofs.tree.span.Goals as goal

pub returns-in-Some : goal.returns-in-Some
returns-in-Some g c =
    root_span g.N.CidrNetwork.WIDTH g.N.CidrNetwork.pair c.args.tree.now c.requires c.in-Some.root.now
    c.in-Some.ensures.lookup.3.0 c.in-Some.ensures.lookup.1
