use Rattle.ipnetwork_sets.proofs.Known.{ℕ, map, arith, refused, holds_by_last, none_holds}
use Rattle.ipnetwork_sets.proofs.search.contains.Goals as goal

pub returns-in-Some : goal.returns-in-Some
returns-in-Some g c =
    let x : ℕ = g.N.CidrNetwork.number c.args.addr in
    let by = holds_by_last g.N.CidrNetwork.WIDTH (map g.N.CidrNetwork.pair c.args.blocks.now) c.one_block.ensures.one
    c.requires x (g.N.CidrNetwork.pair c.in-Some.block) c.in-Some.ensures in
    ((λ t. by.0 (c.contains.ensures.0 t)), (λ u. c.contains.ensures.1 (by.1 u)))

pub returns-in-None : goal.returns-in-None
returns-in-None g c =
    let x : ℕ = g.N.CidrNetwork.number c.args.addr in
    refused (none_holds g.N.CidrNetwork.WIDTH (map g.N.CidrNetwork.pair c.args.blocks.now) c.one_block.ensures.one
    c.requires x x c.in-None.ensures (omega arith))
