use Rattle.std.proofs.Common.{[]}
use Rattle.ipnetwork_blocks.specs.Aggregate.{IsAggregate}
use Rattle.example_guide.proofs.address_pool.AddressPool.new.Goals as goal

-- the set of no networks is empty
pub invariant_of-result : goal.invariant_of-result
invariant_of-result c = λ x held.
    let of_none : IsAggregate 32 [] c.from_networks.result = rw c.new.ensures.items at c.from_networks.ensures in
    absurd (c.unions.ensures.none 32 x ((c.same_union.ensures 32 [] c.from_networks.result of_none x).0 held))

pub returns-clause-free : goal.returns-clause-free
returns-clause-free c = λ x held.
    let of_none : IsAggregate 32 [] c.from_networks.result = rw c.new.ensures.items at c.from_networks.ensures in
    c.unions.ensures.none 32 x ((c.same_union.ensures 32 [] c.from_networks.result of_none x).0 held)
