use Rattle.ipnetwork_sets.proofs.Known.{refl, iff_false}
use Rattle.ipnetwork_sets.proofs.address_set.AddressSet.from_blocks.Goals as goal

pub returns-then-is_address_set : goal.returns-then-is_address_set
returns-then-is_address_set g c =
    (rw c.as_slice.ensures.value at (c.is_address_set.ensures.0 c.if-is_address_set.true), refl)

pub returns-else-is_address_set : goal.returns-else-is_address_set
returns-else-is_address_set g c =
    (iff_false (rw c.as_slice.ensures.value at c.is_address_set.ensures) c.if-is_address_set.false, refl)

pub invariant_of-result : goal.invariant_of-result
invariant_of-result g c = rw c.as_slice.ensures.value at (c.is_address_set.ensures.0 c.if-is_address_set.true)
