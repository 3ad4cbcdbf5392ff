use Rattle.ipnetwork_c.proofs.Known.{ℕ, List, map, rules, Network, sorted_by}
use Rattle.ipnetwork_c.proofs.table_making.sort_places.Goals as goal

pub returns-clause-sorted : goal.returns-clause-sorted
returns-clause-sorted g c =
    let w : ℕ = g.N.CidrNetwork.WIDTH in
    let ns : List Network = map g.H.HoldsNetwork.held c.args.networks.now in
    sorted_by w ns _ c.sort_unstable_by.ensures.sorted (λ a r f' k. search rules)
