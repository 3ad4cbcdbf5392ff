use Rattle.ipnetwork_sets.proofs.Known.{complement_is_least}
use Rattle.ipnetwork_sets.proofs.address_slice.AddressSlice.complement.Goals as goal

pub returns : goal.returns
returns g c =
    complement_is_least g.N.CidrNetwork.WIDTH (g.N.CidrNetwork.pair c.whole.result) c.args.self.now c.free_in.result
    c.whole.ensures c.free_in.ensures
