use Rattle.ipnetwork_sets.proofs.Known.{refl, arith, le-leb, leb-true, overlap_if_second, overlaps_first, second_if_overlap}
use Rattle.ipnetwork_sets.proofs.order.share_address.Goals as goal

pub returns-then-length-shared : goal.returns-then-length-shared
returns-then-length-shared g c =
    let s = rw (c.ip-one.ensures.made, c.ip-other.ensures.made) at c.shared_bits-shared.ensures in (
      (λ t. overlaps_first g.N.CidrNetwork.WIDTH _ _ _ c.ip-one.ensures.network c.ip-other.ensures.network s
          (omega (arith, c.prefix-length.ensures.made, c.if-length-shared.true))),
      (λ o. refl),
    )

pub returns : goal.returns
returns g c =
    let s = rw (c.ip-one.ensures.made, c.ip-other.ensures.made) at c.shared_bits-shared.ensures in
    let shorter = c.if-length-shared.false in (
      (λ t. overlap_if_second g.N.CidrNetwork.WIDTH _ _ _ c.ip-one.ensures.network c.ip-other.ensures.network s
          (omega (arith, c.prefix-other_length.ensures.made, leb-true _ _ t))),
      (λ o. le-leb _ _ (omega (
        arith,
        c.prefix-other_length.ensures.made,
        second_if_overlap g.N.CidrNetwork.WIDTH _ _ _ c.ip-one.ensures.network c.ip-other.ensures.network s
            (omega (arith, c.prefix-length.ensures.made, shorter)) o,
      ))),
    )
