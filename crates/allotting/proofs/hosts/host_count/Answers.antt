use Rattle.allotting.proofs.Known.{ℕ, ◌≡◌, ◌+◌, ◌-◌, ◌^◌, ◌≤◌, arith, pow_mono}
use Rattle.allotting.proofs.hosts.host_count.Goals as goal

pub overflow_sub-result : goal.overflow_sub-result
overflow_sub-result g c =
    let h : ℕ = c.WIDTH.result - c.args.prefix in
    let some : 2 ^ 2 ≤ 2 ^ h = pow_mono {i = 2} {j = h} (omega arith) in
    let last : c.last_offset-last.result + 1 ≡ 2 ^ h = c.last_offset-last.ensures in
    omega (arith, some, last)
