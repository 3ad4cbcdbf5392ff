use Rattle.ipnetwork_sets.proofs.Known.{ℕ, List, map, subst, Network, IsSplitAt, placed_between}
use Rattle.ipnetwork_sets.proofs.place.place_of.Goals as goal

pub returns : goal.returns
returns g c =
    let w : ℕ = g.N.CidrNetwork.WIDTH in
    let bs : List Network = map g.N.CidrNetwork.pair c.args.blocks.now in
    let to : ℕ = c.count_up_to.result in
    placed_between w bs (g.N.CidrNetwork.pair c.args.network) c.one_block.ensures.apart c.requires c.ip.ensures.network
    c.count_before-from.result to c.count_before-from.ensures
    (subst (λ (x : ℕ). IsSplitAt bs x to to) c.broadcast.ensures c.count_up_to.ensures)
