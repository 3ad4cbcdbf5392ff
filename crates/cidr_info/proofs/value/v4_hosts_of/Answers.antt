use Rattle.cidr_info.proofs.Known.{◌≤◌, ◌-◌, ◌∙◌, arith, pow_below}
use Rattle.cidr_info.proofs.value.v4_hosts_of.Goals as goal

pub overflow_add-result : goal.overflow_add-result
overflow_add-result c =
    let n = c.args.network.now in
    let short : n.prefix ≤ 30 = omega (arith, c.if-prefix-gt30.false, c.prefix.ensures.made) in
    omega (
      arith,
      c.from-first.ensures ∙ c.network.ensures.least,
      c.from-last.ensures ∙ c.broadcast.ensures,
      pow_below 0 (32 - n.prefix) (omega arith),
    )

pub overflow_sub-result : goal.overflow_sub-result
overflow_sub-result c =
    let n = c.args.network.now in
    let short : n.prefix ≤ 30 = omega (arith, c.if-prefix-gt30.false, c.prefix.ensures.made) in
    omega (arith, c.from-last.ensures ∙ c.broadcast.ensures, pow_below 0 (32 - n.prefix) (omega arith))
