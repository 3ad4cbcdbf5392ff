use Rattle.cidr_join.proofs.Known.{ap, sym, ◌∙◌, get, asked_at, longest_here, none_over}
use Rattle.cidr_join.proofs.longest.shorter_over.Goals as goal

pub returns-in-Some-get : goal.returns-in-Some-get
returns-in-Some-get g c =
    let m = g.N.CidrNetwork.pair c.args.network in
    let before = c.shorter.invariant in
    let at = asked_at g.N.CidrNetwork.WIDTH c.args.table.now m c.shorter.length (g.N.CidrNetwork.number c.ip.result)
    (g.N.CidrNetwork.pair c.in-Some.block) c.get.result c.get.ensures.value c.in-Some.ensures.cases.1
    c.ip.ensures.made in
    longest_here g.N.CidrNetwork.WIDTH c.args.table.now m c.shorter.length _ c.in-Some-get.value
    c.prefix-length.ensures.network c.get.ensures.blocks before.between before.within at.0
    (sym at.1 ∙ c.in-Some-get.is)

pub returns-then-length-eq0 : goal.returns-then-length-eq0
returns-then-length-eq0 g c =
    let t = c.args.table.now in
    let m = g.N.CidrNetwork.pair c.args.network in
    let at = asked_at g.N.CidrNetwork.WIDTH t m c.shorter.length (g.N.CidrNetwork.number c.ip.result)
    (g.N.CidrNetwork.pair c.in-Some.block) c.get.result c.get.ensures.value c.in-Some.ensures.cases.1
    c.ip.ensures.made in
    none_over g.N.CidrNetwork.WIDTH t m c.shorter.length c.prefix-length.ensures.network c.get.ensures.blocks
    c.shorter.invariant.between (ap (get t) (sym at.0) ∙ sym at.1 ∙ c.in_default-get.is) c.if-length-eq0.true
