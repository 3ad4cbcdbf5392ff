use Rattle.ipnetwork_c.proofs.Known.{◌≡◌, ℕ, inl, inr, ⊎_elim, map, arith, length-map, no_place, IsTable, FindsLongest, InUnion, fits_too, placed}
use Rattle.ipnetwork_c.proofs.range_making.place_of.Goals as goal

pub returns : goal.returns
returns g c =
    let held = g.H.HoldsNetwork.held in
    let w : ℕ = g.N.CidrNetwork.WIDTH in
    let x : ℕ = g.N.CidrNetwork.number c.args.address in
    let ns = map held c.args.blocks.now in
    let size = length-map c.args.blocks.now held in
    ⊎_elim
    (λ (f : FindsLongest w ns x c.find.new.place). let within = f.within in inl (omega arith, f))
    (λ (n : (c.find.new.place ≡ no_place) × (IsTable w ns → ¬ (InUnion w ns x))). inr n)
    (placed w held c.args.blocks.now x
    (fits_too g.H.HoldsNetwork.holds held w g.met.H.Listed.fitting c.args.blocks.now c.requires) c.find.ensures)
