use Rattle.ipnetwork_index.proofs.Known.{◌≡◌, ℕ, ◌+◌, ◌<◌, List, length, map, get_or, arith, sym, subst, length-map, reaches_past, read_number}
use Rattle.ipnetwork_index.proofs.search.reached.Goals as goal

pub reaching-preserved : goal.reaching-preserved
reaching-preserved g c =
    let f = g.K.Key.value in
    let keys = c.args.keys.now in
    let xs : List ℕ = map f keys in
    let x : ℕ = f c.args.key in
    let size : length xs ≡ length keys = length-map keys f in
    let end : ℕ = c.reaching.at + c.min.result in
    let room = c.reaching.invariant.room in
    let own : end < length keys = omega (arith, c.min.ensures) in
    let here : get_or xs end 0 ≡ f c.index-keys-end.result
    = read_number f keys end c.index-keys-end.result own c.index-keys-end.is in
    let less : f c.index-keys-end.result < x = c.is_less.ensures.0 c.if-not-is_less.false in
    reaches_past xs x c.reaching.at end c.reaching.invariant (omega arith)
    (subst (λ (n : ℕ). n < x) (sym here) less)
