use Rattle.ipnetwork_index.proofs.Known.{false, arith, IsTold, none_answered, next_answered, all_answered}
use Rattle.ipnetwork_index.proofs.address_index.AddressIndex.contains_each.Goals as goal

pub loop-place-init : goal.loop-place-init
loop-place-init g c =
    none_answered (IsTold g.N.CidrNetwork.WIDTH c.args.self.now) false g.N.CidrNetwork.number
    c.args.addrs.now _ c.requires

pub loop-place-preserved : goal.loop-place-preserved
loop-place-preserved g c =
    next_answered (IsTold g.N.CidrNetwork.WIDTH c.args.self.now) false g.N.CidrNetwork.number
    c.args.addrs.now c.loop-place.answers c.loop-place.place c.index-addrs-place.result
    c.contains.result c.loop-place.invariant (omega (arith, c.loop-place-test.true))
    c.index-addrs-place.is c.contains.ensures

pub returns : goal.returns
returns g c =
    all_answered (IsTold g.N.CidrNetwork.WIDTH c.args.self.now) false g.N.CidrNetwork.number
    c.args.addrs.now c.loop-place.answers c.loop-place.place c.loop-place.invariant
    (omega (arith, c.loop-place-test.false, c.loop-place.auto.place-end))
