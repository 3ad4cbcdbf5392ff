use Rattle.ipnetwork_sets.proofs.Known.{map, set_of_aggregate}
use Rattle.ipnetwork_sets.proofs.address_set.AddressSet.from_networks.Goals as goal

pub invariant_of-result : goal.invariant_of-result
invariant_of-result g c =
    set_of_aggregate g.N.CidrNetwork.WIDTH (map g.N.CidrNetwork.pair c.args.networks.items)
    (map g.N.CidrNetwork.pair c.aggregate_vec.new.networks.items)
    c.same_union.ensures c.aggregate_vec.ensures.aggregate
