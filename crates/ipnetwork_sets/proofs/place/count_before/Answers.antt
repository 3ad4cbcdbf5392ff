use Rattle.ipnetwork_sets.proofs.Known.{◌-◌, ℕ, map, arith, iff_false, length-map, read_pair, before_none, before_last, before_all}
use Rattle.ipnetwork_sets.proofs.place.count_before.Goals as goal

pub returns-then-begun-eq0 : goal.returns-then-begun-eq0
returns-then-begun-eq0 g c = before_none g.N.CidrNetwork.WIDTH (map g.N.CidrNetwork.pair c.args.blocks.now)
    (g.N.CidrNetwork.pair c.args.network) c.one_block.ensures.apart c.requires c.ip.ensures.network _
    (rw c.network.ensures at c.count_up_to-begun.ensures) (omega arith)

pub returns-then-overlaps : goal.returns-then-overlaps
returns-then-overlaps g c =
    let begun : ℕ = c.count_up_to-begun.result in
    let split = rw c.network.ensures at c.count_up_to-begun.ensures in
    let is = read_pair g.N.CidrNetwork.pair c.args.blocks.now (begun - 1) c.index-blocks-begun.result
    (omega (arith, length-map c.args.blocks.now g.N.CidrNetwork.pair, c.count_up_to-begun.ensures.within))
    c.index-blocks-begun.is in
    before_last g.N.CidrNetwork.WIDTH (map g.N.CidrNetwork.pair c.args.blocks.now) (g.N.CidrNetwork.pair c.args.network)
    c.one_block.ensures.apart c.requires c.ip.ensures.network
    begun _ split (omega arith) is (c.overlaps.ensures.0 c.if-overlaps.true)

pub returns : goal.returns
returns g c =
    let begun : ℕ = c.count_up_to-begun.result in
    let split = rw c.network.ensures at c.count_up_to-begun.ensures in
    let is = read_pair g.N.CidrNetwork.pair c.args.blocks.now (begun - 1) c.index-blocks-begun.result
    (omega (arith, length-map c.args.blocks.now g.N.CidrNetwork.pair, c.count_up_to-begun.ensures.within))
    c.index-blocks-begun.is in
    before_all g.N.CidrNetwork.WIDTH (map g.N.CidrNetwork.pair c.args.blocks.now) (g.N.CidrNetwork.pair c.args.network)
    c.one_block.ensures.apart c.requires c.ip.ensures.network
    begun _ split (omega arith) is (iff_false c.overlaps.ensures c.if-overlaps.false)
