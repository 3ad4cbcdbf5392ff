use Rattle.ipnetwork_sets.proofs.address_slice.AddressSlice.free_in.Goals as goal

pub returns : goal.returns
returns g c = rw c.blocks-2.ensures.blocks at c.within.ensures
