use Rattle.ipnetwork_c.proofs.Known.{◌≡◌, ◌↔◌, ℕ, ◌+◌, ◌-◌, ◌*◌, ◌/◌, ◌^◌, ◌<◌, arith, min, ltb-true, lt-ltb, lies_before}
use Rattle.ipnetwork_c.proofs.index_making.begins_before.Goals as goal

pub returns : goal.returns
returns g c =
    let own : ℕ = (g.H.HoldsNetwork.held c.args.held).address in
    let first : ℕ = (g.H.HoldsNetwork.held c.args.first).address in
    let shift : ℕ = c.args.shift in
    let part : ℕ = c.args.part in
    let told : ℕ = c.part_of.result in
    let is : told ≡ min ((own - first) / 2 ^ shift) 18446744073709551615 =
    rw (c.own_number.ensures.number, c.own_number-2.ensures.number) at c.part_of.ensures in
    let h : (told < part) ↔ (own < first + part * 2 ^ shift) =
    lies_before own first shift told part is c.requires.part (omega arith) in (
      (λ t. h.0 (ltb-true told part t)),
      (λ l. lt-ltb told part (h.1 l)),
    )
