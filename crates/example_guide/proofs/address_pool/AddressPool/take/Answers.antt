use Rattle.std.proofs.Common.{List, refl, subst, ⊎_elim}
use Rattle.ipnetwork_family.specs.Network.{Network, Member}
use Rattle.ipnetwork_blocks.specs.Aggregate.{InUnion}
use Rattle.example_guide.proofs.address_pool.AddressPool.take.Goals as goal

-- out of memory, the set of taken addresses is unchanged
pub invariant_of-self : goal.invariant_of-self
invariant_of-self c = λ x held.
    c.self.invariant x (subst (λ (l : List Network). InUnion 32 l x) c.in_err-insert.ensures.unchanged held)

-- if the block was inserted, an address is taken if it was before or is in the block, which is inside the network
pub invariant_of-self-2 : goal.invariant_of-self-2
invariant_of-self-2 c = λ x held.
    let law = c.changes.ensures.inserted 32 c.self.inside.taken c.in-Some.block c.insert.new.self in
    ⊎_elim
    (λ (old : InUnion 32 c.self.inside.taken x). c.self.invariant x old)
    (λ (new : Member 32 c.in-Some.block x). c.in-Some.ensures.one.within x new)
    ((law c.in_ok-insert.ensures.set x).0 held)

-- the claim about the block comes from `first_free`, the claim about the addresses from the law
pub returns-clause-taken : goal.returns-clause-taken
returns-clause-taken c =
    let law = c.changes.ensures.inserted 32 c.self.inside.taken c.in-Some.block c.insert.new.self in
    rw (← c.self.view_is) record {
      same = refl;
      first = c.in-Some.ensures;
      taken = law c.in_ok-insert.ensures.set;
    }
