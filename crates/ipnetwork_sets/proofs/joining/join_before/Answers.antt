use Rattle.ipnetwork_sets.proofs.Known.{◌-◌, List, map, arith, length-map, Network, told_before, read_pair}
use Rattle.ipnetwork_sets.proofs.joining.join_before.Goals as goal

pub returns-then-first-eq0 : goal.returns-then-first-eq0
returns-then-first-eq0 g c = λ d some. absurd (omega arith)

pub returns : goal.returns
returns g c =
    let bs : List Network = map g.N.CidrNetwork.pair c.args.blocks.now in
    let size = length-map c.args.blocks.now g.N.CidrNetwork.pair in
    let fits = c.requires in
    let t : Network = g.N.CidrNetwork.pair c.index-blocks-first.result in
    let is = read_pair g.N.CidrNetwork.pair c.args.blocks.now (c.args.first - 1) c.index-blocks-first.result
    (omega (arith, fits)) c.index-blocks-first.is in
    told_before g.N.CidrNetwork.pair g.N.CidrNetwork.WIDTH bs c.args.first t (g.N.CidrNetwork.pair c.args.block)
    c.join.result (omega arith) (omega (arith, size, fits)) is c.join.ensures
