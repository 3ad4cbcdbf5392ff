use Rattle.allotting.proofs.Known.{◌≡◌, ℕ, ◌+◌, ◌-◌, ◌/◌, ◌^◌, arith, ones_left, subst}
use Rattle.allotting.proofs.hosts.last_offset.Goals as goal

pub returns : goal.returns
returns c =
    let h : ℕ = c.args.host_bits in
    let fits = c.requires.fits in
    let all : (128 - h) + h ≡ 128 = omega (arith, fits) in
    subst (λ (k : ℕ). (2 ^ k - 1) / 2 ^ (128 - h) + 1 ≡ 2 ^ h) all (ones_left (128 - h) h)
