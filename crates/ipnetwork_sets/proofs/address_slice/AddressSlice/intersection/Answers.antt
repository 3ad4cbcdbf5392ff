use Rattle.ipnetwork_sets.proofs.address_slice.AddressSlice.intersection.Goals as goal

pub returns : goal.returns
returns g c = rw (c.blocks-2.ensures.blocks, c.blocks-3.ensures.blocks) at c.of.ensures
