use Rattle.ipnetwork_sets.proofs.Known.{arith, le-leb, leb-true, halves_by_bits, halves_share}
use Rattle.ipnetwork_sets.proofs.check.are_halves.Goals as goal

pub returns : goal.returns
returns g c =
    let s = rw (c.ip-one.ensures.made, c.ip-other.ensures.made) at c.shared_bits-shared.ensures in
    let made = c.prefix-prefix.ensures.made in
    let same = c.prefix-other_prefix.ensures.made in (
      (λ t. halves_by_bits g.N.CidrNetwork.WIDTH _ _ _ c.ip-one.ensures.network c.ip-other.ensures.network s (omega arith)
          (omega arith) (omega (arith, leb-true _ _ t))),
      (λ h. le-leb _ _ (omega (
        arith,
        halves_share g.N.CidrNetwork.WIDTH _ _ _ c.ip-one.ensures.network c.ip-other.ensures.network s h,
      ))),
    )
