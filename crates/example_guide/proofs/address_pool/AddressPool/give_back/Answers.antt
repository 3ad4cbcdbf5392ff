use Rattle.std.proofs.Common.{List, refl, subst}
use Rattle.ipnetwork_family.specs.Network.{Network}
use Rattle.ipnetwork_blocks.specs.Aggregate.{InUnion}
use Rattle.example_guide.proofs.address_pool.AddressPool.give_back.Goals as goal

-- out of memory, the set of taken addresses is unchanged
pub invariant_of-self : goal.invariant_of-self
invariant_of-self c = λ x held.
    c.self.invariant x (subst (λ (l : List Network). InUnion 32 l x) c.in_err-remove.ensures.unchanged held)

-- if the network was removed, each address still taken was taken before, by the law
pub invariant_of-self-2 : goal.invariant_of-self-2
invariant_of-self-2 c = λ x held.
    let law = c.changes.ensures.removed 32 c.self.inside.taken c.args.network c.remove.new.self in
    c.self.invariant x ((law c.in_ok-remove.ensures.set x).0 held).0

pub returns-clause-given : goal.returns-clause-given
returns-clause-given c =
    let law = c.changes.ensures.removed 32 c.self.inside.taken c.args.network c.remove.new.self in
    rw (← c.self.view_is) record {
      same = refl;
      all = c.covers.ensures.0 c.if-not-covers.false;
      taken = law c.in_ok-remove.ensures.set;
    }
