use Rattle.ipnetwork_c.proofs.Known.{◌≡◌, ℕ, map, get_or, sym, subst, ap, ◌∙◌, arith, get_or-map, IsLongestAt, firsts, place_put}
use Rattle.ipnetwork_c.proofs.range_making.put_places.Goals as goal

pub loop-row-preserved : goal.loop-row-preserved
loop-row-preserved g c =
    let held = g.H.HoldsNetwork.held in
    let w : ℕ = g.N.CidrNetwork.WIDTH in
    let x = c.index-ranges-row.result in
    let first : (get_or (firsts held c.args.ranges.now) c.loop-row.row 0) ≡ g.N.CidrNetwork.number
    c.own_address.result =
    get_or-map (λ c. (held c).address) c.args.ranges.now c.loop-row.row x 0 (omega arith)
    ∙ ap (λ c. (held c).address) (sym c.index-ranges-row.is) ∙ sym c.own_address.ensures in
    place_put w (map held c.args.blocks.now) (firsts held c.args.ranges.now) c.loop-row.places c.loop-row.row
    c.place_of.result c.loop-row.invariant (omega arith)
    (subst (λ (a : ℕ). IsLongestAt w (map held c.args.blocks.now) a c.place_of.result) (sym first) c.place_of.ensures)
