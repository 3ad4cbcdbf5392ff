use Rattle.ipnetwork_index.proofs.Known.{ℕ, sym, subst, InUnion, least_blocks, CutInto, is_inside, blocks_tell, cut_into}
use Rattle.ipnetwork_index.proofs.address_index.AddressIndex.range_count.Goals as goal

pub returns : goal.returns
returns g c =
    let w : ℕ = g.N.CidrNetwork.WIDTH in
    let first = c.self.inside.first_is_in in
    let lasts = c.self.inside.partition in
    let set : ℕ → Type 0 = InUnion w (least_blocks w (is_inside first lasts)) in
    rw (← c.self.view_is)
    (subst (λ (n : ℕ). CutInto w set n) (sym c.len.ensures)
    (cut_into w lasts first set c.self.invariant (λ x small. blocks_tell w (is_inside first lasts) x
    small)))
