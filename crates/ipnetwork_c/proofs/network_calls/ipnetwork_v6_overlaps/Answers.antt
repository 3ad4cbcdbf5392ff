use Rattle.ipnetwork_c.proofs.Known.{refl, On, says}
use Rattle.ipnetwork_c.proofs.network_calls.ipnetwork_v6_overlaps.Goals as goal

pub returns-in-Some-Some : goal.returns-in-Some-Some
returns-in-Some-Some c =
    let one = c.in-Some-Some.ensures in
    let other = c.in-Some-Some.ensures' in
    On ((one.0, other.0), (refl, says _ _ _ c.from.ensures (rw (one.1, other.1) at c.overlaps.ensures)))
