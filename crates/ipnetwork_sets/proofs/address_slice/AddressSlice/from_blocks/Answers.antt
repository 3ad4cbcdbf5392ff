use Rattle.ipnetwork_sets.proofs.Known.{refl, iff_false}
use Rattle.ipnetwork_sets.proofs.address_slice.AddressSlice.from_blocks.Goals as goal

pub returns-then-is_address_set : goal.returns-then-is_address_set
returns-then-is_address_set g c = (c.is_address_set.ensures.0 c.if-is_address_set.true, refl)

pub returns : goal.returns
returns g c = iff_false c.is_address_set.ensures c.if-is_address_set.false

pub invariant_of-result : goal.invariant_of-result
invariant_of-result g c = c.is_address_set.ensures.0 c.if-is_address_set.true
