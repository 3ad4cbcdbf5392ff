use Rattle.ipnetwork_law_uses.proofs.address_sets.an_intersection_is_least.Goals as goal

pub returns-clause-v4 : goal.returns-clause-v4
returns-clause-v4 c =
    λ a b blocks h.
    let s = c.shortest.ensures.common 32 a b blocks h in
    (s.addresses, s.apart, s.shortest, s.one)

pub returns-clause-v6 : goal.returns-clause-v6
returns-clause-v6 c =
    λ a b blocks h.
    let s = c.shortest.ensures.common 128 a b blocks h in
    (s.addresses, s.apart, s.shortest, s.one)
