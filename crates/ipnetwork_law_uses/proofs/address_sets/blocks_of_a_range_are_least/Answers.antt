use Rattle.ipnetwork_law_uses.proofs.address_sets.blocks_of_a_range_are_least.Goals as goal

pub returns-clause-v4 : goal.returns-clause-v4
returns-clause-v4 c =
    λ first last blocks l h.
    let s = c.ranges_are_shortest.ensures.range 32 first last blocks l h in
    (s.addresses, s.apart, s.shortest, s.one)

pub returns-clause-v6 : goal.returns-clause-v6
returns-clause-v6 c =
    λ first last blocks l h.
    let s = c.ranges_are_shortest.ensures.range 128 first last blocks l h in
    (s.addresses, s.apart, s.shortest, s.one)
