use Rattle.reducing.proofs.Known.{◌≡◌, ℕ, ◌+◌, ◌-◌, ◌/◌, ◌^◌, subst, ap, arith, ◌∙◌, ones_shifted}
use Rattle.reducing.proofs.joining.last_offset.Goals as goal

pub returns-else-host_bits-eq0 : goal.returns-else-host_bits-eq0
returns-else-host_bits-eq0 g c =
    let w : ℕ = g.N.CidrNetwork.WIDTH in
    let h : ℕ = c.WIDTH.result - c.args.prefix in
    let few = g.met.N.AddressSpace.few_bits in
    let all : (128 - h) + h ≡ 128 = omega (arith, few, c.WIDTH.ensures) in
    let bits : h ≡ w - c.args.prefix = omega (arith, c.WIDTH.ensures) in
    subst (λ (k : ℕ). (2 ^ k - 1) / 2 ^ (128 - h) + 1 ≡ 2 ^ h) all (ones_shifted (128 - h) h) ∙ ap (λ k. 2 ^ k) bits
