use Rattle.ipnetwork_c.proofs.Known.{◌≡◌, ℕ, ◌<◌, ◌≤◌, List, ◌++◌, length, map, take, drop, get_or, ap, sym, subst, ◌∙◌, arith, range_with_len, length-take-le, length-range_with_len, length_permutation, row_block, taken}
use Rattle.ipnetwork_c.proofs.TableMaking.{made}
use Rattle.ipnetwork_c.proofs.table_making.make.Goals as goal

pub returns : goal.returns
returns g c =
    let n : ℕ = length c.args.networks.now in
    let room : n ≤ length c.args.blocks.now = omega arith in
    let places_room : n ≤ length c.args.places.now = omega arith in
    let all = c.all_fit.ensures.0 c.if-not-all_fit.false in
    let numbered : c.put_places.new.places ≡ range_with_len 0 n = c.put_places.ensures
    ∙ ap (range_with_len 0) (length-take-le n c.args.places.now places_room) in
    let order : List ℕ = c.sort_places.new.places in
    let rest : List ℕ = drop n (c.put_places.new.places ++ drop n c.args.places.now) in
    let count : length c.put_places.new.places ≡ n = ap length numbered ∙ length-range_with_len 0 n in
    let front : take n (c.put_places.new.places ++ drop n c.args.places.now) ≡ c.put_places.new.places =
    taken c.put_places.new.places (drop n c.args.places.now) n count in
    let size : length order ≡ n = length_permutation _ _ c.sort_places.ensures.permutation ∙ ap length front ∙ count in
    let read : take n (order ++ rest) ≡ order = taken order rest n size in
    made g.H.HoldsNetwork.held g.N.CidrNetwork.WIDTH c.args.networks.now c.args.blocks.now c.put_rows.new.blocks
    c.args.places.now c.put_places.new.places order
    (λ k d l. (g.met.H.Listed.fitting _).0 (all k d l)) room places_room numbered c.sort_places.ensures.permutation
    c.sort_places.ensures.sorted (c.put_rows.ensures.rows ∙ length-take-le n c.args.blocks.now room)
    (λ k d l. subst (λ (p : List ℕ). (get_or (map g.H.HoldsNetwork.held c.put_rows.new.blocks) k d) ≡ row_block
    g.N.CidrNetwork.WIDTH (map g.H.HoldsNetwork.held c.args.networks.now) (get_or p k 0)) read
    (c.put_rows.ensures.put k d (subst (λ (p : List ℕ). k < length p) (sym read) l)))
    c.put_rows.ensures.blocks
