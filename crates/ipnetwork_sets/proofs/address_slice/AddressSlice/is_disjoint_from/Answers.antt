use Rattle.ipnetwork_sets.proofs.Known.{disjoint_answer}
use Rattle.ipnetwork_sets.proofs.address_slice.AddressSlice.is_disjoint_from.Goals as goal

pub returns : goal.returns
returns g c =
    disjoint_answer g.N.CidrNetwork.WIDTH c.args.self.now c.args.other.now c.intersection-common.result c.next.new.self
    g.N.CidrNetwork.pair c.next.result c.is_none.result
    c.intersection-common.ensures c.next.ensures.steps c.is_none.ensures
