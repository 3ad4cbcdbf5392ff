use Rattle.ipnetwork_c.proofs.Known.{◌≡◌, ◌-◌, ◌/◌, ◌^◌, ◌<◌, ℕ, refl, sym, subst, ◌∙◌, arith, div-eq_of_lt}
use Rattle.ipnetwork_c.proofs.ipv6_in_c.Ipv6InCNumberedIpv6Network.has.Goals as goal

pub returns-then-self-eq0 : goal.returns-then-self-eq0
returns-then-self-eq0 c =
    let x : ℕ = c.args.number in
    let a : ℕ = c.number_of-own.result in
    let small : x < 340282366920938463463374607431768211456 = omega arith in
    let own : a < 340282366920938463463374607431768211456 = omega arith in
    let same : x / 2 ^ (128 - 0) ≡ a / 2 ^ (128 - 0) = div-eq_of_lt small ∙ sym (div-eq_of_lt own) in
    let fixed : x / 2 ^ (128 - c.args.self.now.prefix) ≡ a / 2 ^ (128 - c.args.self.now.prefix)
    = subst (λ (p : ℕ). x / 2 ^ (128 - p) ≡ a / 2 ^ (128 - p)) (sym c.if-self-eq0.true) same in (
      (λ _. (
        small,
        subst (λ (b : ℕ). x / 2 ^ (128 - c.args.self.now.prefix) ≡ b / 2 ^ (128 - c.args.self.now.prefix))
            c.number_of-own.ensures fixed,
      )),
      (λ _. refl),
    )
