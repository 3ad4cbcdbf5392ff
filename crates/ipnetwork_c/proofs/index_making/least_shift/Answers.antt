use Rattle.ipnetwork_c.proofs.Known.{◌≡◌, ◌-◌, ◌/◌, ◌^◌, ◌<◌, ◌≤◌, ℕ, List, length, map, sym, ◌∙◌, arith, eqb-false, Network, span, span_is, parts_all, two_halves}
use Rattle.ipnetwork_c.proofs.index_making.least_shift.Goals as goal

pub returns-clause-narrow : goal.returns-clause-narrow
returns-clause-narrow g c =
    let w : ℕ = g.N.CidrNetwork.WIDTH in
    let held = g.H.HoldsNetwork.held in
    let ns : List Network = map held c.args.list.now in
    let half : ℕ = c.half-half.result in
    let first : ℕ = g.H.Numbered.value c.own_number-first.result in
    let last : ℕ = g.H.Numbered.value c.own_number-last.result in
    let some : ¬ (length c.args.list.now ≡ 0) =
    eqb-false (length c.args.list.now) 0 (sym c.is_empty.ensures ∙ c.if-is_empty.false) in
    let wide : last < 2 ^ w = c.own_number-last.ensures.width in
    let is : last - first ≡ span ns = span_is held c.args.list.now c.index-list-0.result c.index-list-list.result first
    last (omega arith) c.index-list-0.is c.index-list-list.is c.own_number-first.ensures.number
    c.own_number-last.ensures.number in
    let more : c.args.count ≤ span ns / 2 ^ half = c.loop-shift.invariant.more half (omega arith) in
    let few : c.args.count < 2 = two_halves ns w c.args.count half c.half-half.ensures (omega arith) more in
    λ two. absurd (omega arith)

pub returns-clause-least : goal.returns-clause-least
returns-clause-least g c =
    let w : ℕ = g.N.CidrNetwork.WIDTH in
    let held = g.H.HoldsNetwork.held in
    let ns : List Network = map held c.args.list.now in
    let first : ℕ = g.H.Numbered.value c.own_number-first.result in
    let last : ℕ = g.H.Numbered.value c.own_number-last.result in
    let some : ¬ (length c.args.list.now ≡ 0) =
    eqb-false (length c.args.list.now) 0 (sym c.is_empty.ensures ∙ c.if-is_empty.false) in
    let wide : last < 2 ^ w = c.own_number-last.ensures.width in
    let is : last - first ≡ span ns = span_is held c.args.list.now c.index-list-0.result c.index-list-list.result first
    last (omega arith) c.index-list-0.is c.index-list-list.is c.own_number-first.ensures.number
    c.own_number-last.ensures.number in
    parts_all ns w c.args.count c.half-half.result c.half-half.ensures (omega arith) c.requires
    (λ smaller l. c.loop-shift.invariant.more smaller (omega arith))
