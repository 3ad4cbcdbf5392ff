use Rattle.ipnetwork_c.proofs.Known.{◌≡◌, ◌++◌, ℕ, List, map, take, drop, get_or, ap, ◌∙◌, ◌<◌, length, arith, get_or_default, get_or-append-add, get_or-drop, length-map, length-take-le, number_at, row_written}
use Rattle.ipnetwork_c.proofs.range_making.put_numbers.Goals as goal

-- after the numbers come the places that are not replaced yet
pub place_left : (f : ℕ → ℕ) (old places : List ℕ) (row d : ℕ) → row < length old → places ≡ map f (take row old)
    ++ drop row old → get_or places row d ≡ get_or old row d
place_left f old places row d below is =
    let size : length (map f (take row old)) ≡ row = length-map (take row old) f
    ∙ length-take-le row old (omega (arith, below)) in
    ap (λ xs. get_or xs row d) is
    ∙ ap (λ k. get_or (map f (take row old) ++ drop row old) k d) (omega (arith, size))
    ∙ get_or-append-add (map f (take row old)) (drop row old) 0 d
    ∙ get_or-drop row old 0 d
    ∙ ap (λ k. get_or old k d) (omega arith)

pub loop-row-preserved : goal.loop-row-preserved
loop-row-preserved c =
    let f = number_at c.args.numbers.now in
    let old = c.args.places.now in
    let row = c.loop-row.row in
    let x = get_or old row 0 in
    let below : row < length old = omega arith in
    let left : get_or c.loop-row.places row 0 ≡ x =
    place_left f old c.loop-row.places row 0 below c.loop-row.invariant in
    row_written f old x old c.loop-row.places row c.number_at.result below (omega arith)
    (get_or_default old row 0 x below) c.loop-row.invariant (c.number_at.ensures ∙ ap f left)
