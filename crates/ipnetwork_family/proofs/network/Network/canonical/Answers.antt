use Rattle.ipnetwork_family.proofs.Known.{arith, ◌≡◌, ◌+◌, ◌<◌, ◌^◌, ◌∙◌, ap, length, length-append, decimal, length-decimal-le}
use Rattle.ipnetwork_family.proofs.network.Network.canonical.Goals as goal

pub returns-clause-short : goal.returns-clause-short
returns-clause-short g c =
    let few = g.met.A.Address.few_digits in
    let empty : length c.new-text.result.bytes ≡ 0 = ap length c.new-text.ensures in
    let shown : length c.as_str.result.now ≡ length c.canonical.result.bytes = ap length c.as_str.ensures.value in
    let address : length c.push_str.new.self.bytes ≡ length c.new-text.result.bytes + length c.as_str.result.now =
    c.push_str.ensures.len in
    let slash : length c.push.new.self.bytes ≡ length c.push_str.new.self.bytes + 1 =
    ap length (c.push.ensures.ascii (omega arith)) ∙ length-append c.push_str.new.self.bytes _ in
    let prefix : length c.push_decimal.new.text.bytes ≡ length c.push.new.self.bytes + length
    (decimal c.prefix.result) = ap length c.push_decimal.ensures.bytes ∙ length-append c.push.new.self.bytes _ in
    let below : c.prefix.result < 10 ^ g.A.Address.family.prefix_digits =
    omega (arith, c.prefix.ensures.made, c.prefix.ensures.network.prefix_fits, few.2) in
    let digits = length-decimal-le g.A.Address.family.prefix_digits c.prefix.result few.0 below
    (omega (arith, few.1)) in
    omega (arith, c.canonical.ensures.short)
