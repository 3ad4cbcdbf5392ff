use Rattle.ipnetwork_blocks.proofs.Known.{lies_in_none, lies_in_last}
use Rattle.ipnetwork_blocks.proofs.aggregate.lies_in_last.Goals as goal

pub returns-in-None : goal.returns-in-None
returns-in-None g c = lies_in_none g.H.HoldsNetwork.held g.N.CidrNetwork.WIDTH c.args.front.now
    (g.N.CidrNetwork.pair c.args.block) c.in-None.ensures.item.3

pub returns-in-Some : goal.returns-in-Some
returns-in-Some g c =
    lies_in_last g.H.HoldsNetwork.held g.N.CidrNetwork.WIDTH c.args.front.now c.in-Some.last.now
    (g.N.CidrNetwork.pair c.args.block) (g.N.CidrNetwork.pair c.held_network.result)
    c.lies_in.result c.in-Some.ensures.item.3.0 c.in-Some.ensures.item.1 c.held_network.ensures
    c.lies_in.ensures
