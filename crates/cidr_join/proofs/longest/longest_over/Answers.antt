use Rattle.cidr_join.proofs.Known.{arith, longest_is_over}
use Rattle.cidr_join.proofs.longest.longest_over.Goals as goal

pub returns-then-prefix-clause-answer : goal.returns-then-prefix-clause-answer
returns-then-prefix-clause-answer g c =
    longest_is_over g.N.CidrNetwork.WIDTH c.args.index.now (g.N.CidrNetwork.pair c.args.network)
    (g.N.CidrNetwork.pair c.in-Some.found.0) c.in-Some.found.1 (g.N.CidrNetwork.number c.ip.result)
    c.ip.ensures.made c.ip.ensures.network
    (omega (arith, c.prefix.ensures.made, c.prefix-2.ensures.made, c.if-prefix.true)) c.in-Some.ensures.answer
