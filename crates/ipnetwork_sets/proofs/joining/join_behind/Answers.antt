use Rattle.ipnetwork_sets.proofs.Known.{List, map, arith, length-map, Network, told_behind, read_pair}
use Rattle.ipnetwork_sets.proofs.joining.join_behind.Goals as goal

pub returns-then-behind-blocks : goal.returns-then-behind-blocks
returns-then-behind-blocks g c =
    let size = length-map c.args.blocks.now g.N.CidrNetwork.pair in
    λ d some. absurd (omega (arith, size))

pub returns : goal.returns
returns g c =
    let bs : List Network = map g.N.CidrNetwork.pair c.args.blocks.now in
    let size = length-map c.args.blocks.now g.N.CidrNetwork.pair in
    let t : Network = g.N.CidrNetwork.pair c.index-blocks-behind.result in
    let is = read_pair g.N.CidrNetwork.pair c.args.blocks.now c.args.behind c.index-blocks-behind.result (omega arith)
    c.index-blocks-behind.is in
    told_behind g.N.CidrNetwork.pair g.N.CidrNetwork.WIDTH bs c.args.behind (g.N.CidrNetwork.pair c.args.block) t
    c.join.result (omega (arith, size)) is c.join.ensures
