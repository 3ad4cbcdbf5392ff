use Rattle.ipnetwork_c.proofs.Known.{refl, On, says}
use Rattle.ipnetwork_c.proofs.network_calls.ipnetwork_v4_is_subnet_of.Goals as goal

pub returns-in-Some-Some : goal.returns-in-Some-Some
returns-in-Some-Some c =
    let inner = c.in-Some-Some.ensures in
    let outer = c.in-Some-Some.ensures' in
    On ((inner.0, outer.0), (refl, says _ _ _ c.from.ensures (rw (inner.1, outer.1) at c.is_subnet_of.ensures)))
