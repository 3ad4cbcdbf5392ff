use Rattle.ipnetwork_sets.proofs.Known.{◌-◌, ℕ, List, map, arith, length-map, Network, read_pair, split_none_at, split_last}
use Rattle.ipnetwork_sets.proofs.search.last_up_to.Goals as goal

pub returns-then-count-eq0 : goal.returns-then-count-eq0
returns-then-count-eq0 g c =
    split_none_at (map g.N.CidrNetwork.pair c.args.blocks.now) (g.N.CidrNetwork.number c.args.addr)
    c.count_up_to-count.result c.count_up_to-count.result c.count_up_to-count.ensures
    (omega arith) (omega arith)

pub returns : goal.returns
returns g c =
    let bs : List Network = map g.N.CidrNetwork.pair c.args.blocks.now in
    let size = length-map c.args.blocks.now g.N.CidrNetwork.pair in
    let count : ℕ = c.count_up_to-count.result in
    let within = c.count_up_to-count.ensures.within in
    let b : Network = g.N.CidrNetwork.pair c.index-blocks-count.result in
    let is = read_pair g.N.CidrNetwork.pair c.args.blocks.now (count - 1) c.index-blocks-count.result
    (omega (arith, size, within)) c.index-blocks-count.is in
    split_last bs (g.N.CidrNetwork.number c.args.addr) count count b c.requires c.count_up_to-count.ensures
    (omega arith) (omega arith) is
