use Rattle.ipnetwork_index.proofs.Known.{None, arith, Finds, none_answered, next_answered, all_answered}
use Rattle.ipnetwork_index.proofs.route_index.RouteIndex.lookup_each.Goals as goal

pub loop-place-init : goal.loop-place-init
loop-place-init g c =
    none_answered (Finds g.N.CidrNetwork.pair g.N.CidrNetwork.WIDTH c.args.self.now) None
    g.N.CidrNetwork.number c.args.addrs.now _ c.requires

pub loop-place-preserved : goal.loop-place-preserved
loop-place-preserved g c =
    next_answered (Finds g.N.CidrNetwork.pair g.N.CidrNetwork.WIDTH c.args.self.now) None
    g.N.CidrNetwork.number c.args.addrs.now c.loop-place.answers c.loop-place.place
    c.index-addrs-place.result c.lookup.result c.loop-place.invariant
    (omega (arith, c.loop-place-test.true)) c.index-addrs-place.is c.lookup.ensures.answer

pub returns : goal.returns
returns g c =
    all_answered (Finds g.N.CidrNetwork.pair g.N.CidrNetwork.WIDTH c.args.self.now) None
    g.N.CidrNetwork.number c.args.addrs.now c.loop-place.answers c.loop-place.place
    c.loop-place.invariant (omega (arith, c.loop-place-test.false, c.loop-place.auto.place-end))
