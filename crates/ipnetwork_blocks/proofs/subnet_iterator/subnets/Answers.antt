use Rattle.ipnetwork_blocks.proofs.Known.{◌≤◌, arith, StartsRun, starts_at}
use Rattle.ipnetwork_blocks.proofs.subnet_iterator.subnets.Goals as goal

pub invariant_of-result : goal.invariant_of-result
invariant_of-result g c =
    let longer : (g.N.CidrNetwork.pair c.args.network).prefix ≤ c.args.prefix =
    omega (arith, c.if-prefix.false, c.prefix.ensures.made) in
    let starts : StartsRun g.N.CidrNetwork.WIDTH (g.N.CidrNetwork.pair c.args.network) c.args.prefix
    (g.N.CidrNetwork.pair c.in_ok-first.first) (g.N.CidrNetwork.pair c.in_ok-last.last) =
    starts_at (g.N.CidrNetwork.number c.network.result) (g.N.CidrNetwork.number c.broadcast.result)
    c.prefix.ensures.network longer c.in_ok-first.ensures.cases.0
    c.network.ensures c.broadcast.ensures c.in_ok-first.ensures.cases.1 c.in_ok-last.ensures.cases.1 in
    starts.run

pub returns : goal.returns
returns g c =
    let longer : (g.N.CidrNetwork.pair c.args.network).prefix ≤ c.args.prefix =
    omega (arith, c.if-prefix.false, c.prefix.ensures.made) in
    let starts : StartsRun g.N.CidrNetwork.WIDTH (g.N.CidrNetwork.pair c.args.network) c.args.prefix
    (g.N.CidrNetwork.pair c.in_ok-first.first) (g.N.CidrNetwork.pair c.in_ok-last.last) =
    starts_at (g.N.CidrNetwork.number c.network.result) (g.N.CidrNetwork.number c.broadcast.result)
    c.prefix.ensures.network longer c.in_ok-first.ensures.cases.0
    c.network.ensures c.broadcast.ensures c.in_ok-first.ensures.cases.1 c.in_ok-last.ensures.cases.1 in
    (longer, c.in_ok-first.ensures.cases.0, starts.list)
