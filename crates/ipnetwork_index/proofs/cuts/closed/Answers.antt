use Rattle.ipnetwork_index.proofs.Known.{◌≡◌, ℕ, ◌+◌, ◌^◌, List, [], ◌∷◌, ◌++◌, map, sym, subst, map-append, Closes, closes_same, closes_pushed, whole_high}
use Rattle.ipnetwork_index.proofs.cuts.closed.Goals as goal

pub returns-then-ends_whole : goal.returns-then-ends_whole
returns-then-ends_whole g c =
    closes_same g.N.CidrNetwork.WIDTH (map g.N.CidrNetwork.number c.args.cuts.items) c.requires
    (rw (← c.as_slice.ensures.value) (c.ends_whole.ensures.whole c.if-ends_whole.true))

pub returns : goal.returns
returns g c =
    let f = g.N.CidrNetwork.number in
    let w : ℕ = g.N.CidrNetwork.WIDTH in
    let top : ℕ = f c.broadcast.result in
    let is : top + 1 ≡ 2 ^ w = subst (λ (t : ℕ). t + 1 ≡ 2 ^ w) (sym c.broadcast.ensures)
    (whole_high w _ c.whole.ensures) in
    let items : map f c.push.new.self.items ≡ map f c.args.cuts.items ++ top ∷ []
    = rw c.in_ok-push.ensures.items (simp map-append) in
    subst (λ (xs : List ℕ). Closes w (map f c.args.cuts.items) xs) (sym items)
    (closes_pushed w (map f c.args.cuts.items) top c.requires (rw (← c.as_slice.ensures.value)
    (c.ends_whole.ensures.not c.if-ends_whole.false)) is)
