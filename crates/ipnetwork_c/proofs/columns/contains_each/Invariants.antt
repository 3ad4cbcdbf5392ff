use Rattle.ipnetwork_c.proofs.Known.{◌≡◌, ◌++◌, map, take, drop, from_bool, is_member}
use Rattle.ipnetwork_c.proofs.columns.contains_each.Given as goal

abbrev pub invariant-loop-row : goal.invariant-loop-row
invariant-loop-row g l =
    l.answers ≡ map (λ octets. from_bool (is_member g.N.CidrNetwork.WIDTH (g.H.HoldsNetwork.held l.network)
    (g.H.Numbered.meant octets))) (take l.row l.addresses) ++ drop l.row l.initial.answers
