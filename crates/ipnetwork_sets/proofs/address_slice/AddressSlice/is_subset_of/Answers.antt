use Rattle.ipnetwork_sets.proofs.Known.{within_answer}
use Rattle.ipnetwork_sets.proofs.address_slice.AddressSlice.is_subset_of.Goals as goal

pub returns : goal.returns
returns g c =
    within_answer g.N.CidrNetwork.WIDTH c.args.self.now c.args.other.now c.difference-left.result c.next.new.self
    g.N.CidrNetwork.pair c.next.result c.is_none.result
    c.difference-left.ensures c.next.ensures.steps c.is_none.ensures
