use Rattle.ipnetwork_index.proofs.Known.{◌≡◌, ℕ, ◌+◌, ◌*◌, List, length, map, get_or, arith, length-map, IsOneIfLess, four_step, read_number}
use Rattle.ipnetwork_index.proofs.simd_step.below_of_four.Goals as goal

pub returns : goal.returns
returns g c =
    let f = g.K.Key.value in
    let keys = c.args.keys.now in
    let xs : List ℕ = map f keys in
    let x : ℕ = f c.args.key in
    let at : ℕ = c.args.at in
    let step : ℕ = c.args.step in
    let size : length xs ≡ length keys = length-map keys f in
    let within = c.requires.within in
    let a : IsOneIfLess (get_or xs (at + step) 0) x c.one_if_less-first.result
    = rw (read_number f keys (at + step) c.index-keys-at-2.result (omega arith) c.index-keys-at-2.is)
    c.one_if_less-first.ensures in
    let b : IsOneIfLess (get_or xs (at + (2 * step + 1)) 0) x c.one_if_less-second.result
    = rw (read_number f keys (at + (2 * step + 1)) c.index-keys-at-3.result (omega arith)
    c.index-keys-at-3.is)
    c.one_if_less-second.ensures in
    let d : IsOneIfLess (get_or xs (at + (3 * step + 2)) 0) x c.one_if_less-third.result
    = rw (read_number f keys (at + (3 * step + 2)) c.index-keys-at-4.result (omega arith)
    c.index-keys-at-4.is)
    c.one_if_less-third.ensures in
    let e : IsOneIfLess (get_or xs (at + (4 * step + 3)) 0) x c.one_if_less-fourth.result
    = rw (read_number f keys (at + (4 * step + 3)) c.index-keys-at.result (omega arith)
    c.index-keys-at.is)
    c.one_if_less-fourth.ensures in
    four_step xs x at step c.one_if_less-first.result c.one_if_less-second.result
    c.one_if_less-third.result c.one_if_less-fourth.result
    c.requires.ascending (omega arith) a b d e
