use Rattle.ipnetwork_sets.proofs.Known.{map, refused, overlaps_by_last, overlaps_none}
use Rattle.ipnetwork_sets.proofs.search.overlaps.Goals as goal

pub returns-in-Some : goal.returns-in-Some
returns-in-Some g c =
    let by = overlaps_by_last g.N.CidrNetwork.WIDTH (map g.N.CidrNetwork.pair c.args.blocks.now) c.one_block.ensures.one
    c.requires (g.N.CidrNetwork.pair c.args.network)
    (g.N.CidrNetwork.pair c.in-Some.block) c.ip.ensures.network (rw c.broadcast.ensures at c.in-Some.ensures) in
    ((λ t. by.0 (c.overlaps.ensures.0 t)), (λ u. c.overlaps.ensures.1 (by.1 u)))

pub returns-in-None : goal.returns-in-None
returns-in-None g c =
    refused (overlaps_none g.N.CidrNetwork.WIDTH (map g.N.CidrNetwork.pair c.args.blocks.now) c.one_block.ensures.one
    c.requires (g.N.CidrNetwork.pair c.args.network) c.ip.ensures.network
    (rw c.broadcast.ensures at c.in-None.ensures))
