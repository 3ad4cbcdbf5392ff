use Rattle.ipnetwork_sets.proofs.Known.{sym, arith, le-leb, leb-true, begins, begins_alone}
use Rattle.ipnetwork_sets.proofs.check.has_no_host_bits.Goals as goal

pub returns-clause-told : goal.returns-clause-told
returns-clause-told g c =
    let z = rw c.ip.ensures.made at c.trailing_zeros.ensures in
    let made = c.prefix.ensures.made in
    let fits = c.prefix.ensures.network.prefix_fits in (
      (λ t. sym (begins g.N.CidrNetwork.WIDTH _ _ _ z (omega (arith, leb-true _ _ t)) fits)),
      (λ h. le-leb _ _ (omega (arith, begins_alone g.N.CidrNetwork.WIDTH _ _ _ z (sym h)))),
    )
