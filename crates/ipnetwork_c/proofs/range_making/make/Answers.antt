use Rattle.ipnetwork_c.proofs.Known.{◌≡◌, ℕ, ◌*◌, ◌≤◌, List, length, map, take, drop, subst, ◌∙◌, arith, All, length-take-le, All-permutation, length_permutation, in_order_from_sort, firsts, ArePlacesUpTo, fits_too, front_taken, made}
use Rattle.ipnetwork_c.proofs.range_making.make.Goals as goal

pub returns : goal.returns
returns g c =
    let held = g.H.HoldsNetwork.held in
    let holds = g.H.HoldsNetwork.holds in
    let w : ℕ = g.N.CidrNetwork.WIDTH in
    let n : ℕ = c.put_cuts-made.result in
    let list = c.args.blocks.now in
    let cut = c.put_cuts-made.new.ranges in
    let sorted = c.sort_unstable.new.self in
    let put : List ℕ = c.put_places.new.places in
    let written = c.put_cuts-made.ensures.written in
    let cuts = c.put_cuts-made.ensures.cuts in
    let fits = fits_too holds held w g.met.H.Listed.fitting _ (c.all_fit.ensures.0 c.if-not-all_fit.false) in
    let front : length (take n cut) ≡ n = length-take-le n cut written.within in
    let few = cuts.few in
    let size : length sorted ≡ n = length_permutation (take n cut) sorted c.sort_unstable.ensures.permutation ∙ front in
    let room : 2 * length list ≤ length c.args.ranges.now = omega arith in
    let places_room : 2 * length list ≤ length c.args.places.now = omega arith in
    let within : n ≤ length c.args.places.now = omega arith in
    let held_all : All holds sorted = All-permutation holds (take n cut) sorted c.sort_unstable.ensures.permutation
    (λ k d l. (cuts.alone k d l).holds_it) in
    let order = in_order_from_sort held holds g.H.Ord.cmp sorted g.met.H.HoldsNetwork.held_order held_all
    c.sort_unstable.ensures.sorted in
    let beside : ArePlacesUpTo w (map held list) (firsts held sorted) put (length sorted) =
    subst (λ xs. ArePlacesUpTo w (map held list) (firsts held xs) put (length xs))
    (front_taken sorted (drop n cut) n size) c.put_places.ensures.places in
    made w holds held list c.args.ranges.now cut sorted c.args.places.now put n c.args.count.now fits room places_room
    written cuts c.sort_unstable.ensures.permutation order
    (c.put_places.ensures.size ∙ length-take-le n c.args.places.now within) within
    (subst (λ (k : ℕ). ArePlacesUpTo w (map held list) (firsts held sorted) put k) size beside)
