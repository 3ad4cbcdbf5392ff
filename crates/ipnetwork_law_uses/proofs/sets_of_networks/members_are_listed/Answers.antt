use Rattle.ipnetwork_law_uses.proofs.sets_of_networks.members_are_listed.Goals as goal

pub returns-clause-v4 : goal.returns-clause-v4
returns-clause-v4 c =
    λ n h.
    let l = c.listing.ensures 32 n h in
    (l.ascending, (λ x. (l.each x, l.all x)), l.at)

pub returns-clause-v6 : goal.returns-clause-v6
returns-clause-v6 c =
    λ n h.
    let l = c.listing.ensures 128 n h in
    (l.ascending, (λ x. (l.each x, l.all x)), l.at)
