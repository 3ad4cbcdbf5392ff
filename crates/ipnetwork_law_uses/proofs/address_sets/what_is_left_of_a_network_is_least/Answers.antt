use Rattle.ipnetwork_law_uses.proofs.address_sets.what_is_left_of_a_network_is_least.Goals as goal

pub returns-clause-v4 : goal.returns-clause-v4
returns-clause-v4 c =
    λ n a blocks h.
    let s = c.shortest.ensures.free 32 n a blocks h in
    (s.addresses, s.apart, s.shortest, s.one)

pub returns-clause-v6 : goal.returns-clause-v6
returns-clause-v6 c =
    λ n a blocks h.
    let s = c.shortest.ensures.free 128 n a blocks h in
    (s.addresses, s.apart, s.shortest, s.one)
