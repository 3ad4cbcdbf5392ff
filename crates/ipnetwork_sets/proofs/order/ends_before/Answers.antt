use Rattle.ipnetwork_sets.proofs.Known.{sym, true≢false, arith, begins_before, ends_by_bits, ends_too_late}
use Rattle.ipnetwork_sets.proofs.order.ends_before.Goals as goal

pub returns-then-prefix-shared : goal.returns-then-prefix-shared
returns-then-prefix-shared g c =
    let s = rw (c.ip-own.ensures.made, c.ip-begin.ensures.made) at c.shared_bits-shared.ensures in (
      (λ t. absurd (true≢false (sym t))),
      (λ l. absurd (ends_too_late g.N.CidrNetwork.WIDTH _ _ _ c.ip-own.ensures.network c.ip-begin.ensures.network s
          (omega (arith, c.prefix.ensures.made, c.if-prefix-shared.true)) l)),
    )

pub returns : goal.returns
returns g c =
    let s = rw (c.ip-own.ensures.made, c.ip-begin.ensures.made) at c.shared_bits-shared.ensures in
    let says = rw (c.ip-own.ensures.made, c.ip-begin.ensures.made) at c.is_before.ensures in (
      (λ t. ends_by_bits g.N.CidrNetwork.WIDTH _ _ _ c.ip-own.ensures.network c.ip-begin.ensures.network s
          (omega (arith, c.prefix.ensures.made, c.if-prefix-shared.false)) (says.0 t)),
      (λ l. says.1 (begins_before g.N.CidrNetwork.WIDTH _ _ _ c.ip-own.ensures.network c.ip-begin.ensures.network s l)),
    )
