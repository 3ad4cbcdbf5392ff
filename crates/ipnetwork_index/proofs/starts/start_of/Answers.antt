use Rattle.ipnetwork_index.proofs.Known.{◌≡◌, ℕ, List, length, map, get_or, arith, length-map, IsPart, start_more, read_number}
use Rattle.ipnetwork_index.proofs.starts.start_of.Goals as goal

pub loop-at-preserved : goal.loop-at-preserved
loop-at-preserved g c =
    let f = g.K.Key.value in
    let xs : List ℕ = map f c.args.keys.now in
    let size : length xs ≡ length c.args.keys.now = length-map c.args.keys.now f in
    let own : IsPart (get_or xs c.loop-at.at 0) (f c.args.base) c.args.shift 18446744073709551615
    c.part_of.result
    = rw (read_number f c.args.keys.now c.loop-at.at c.index-keys-at.result (omega arith)
    c.index-keys-at.is) c.part_of.ensures in
    start_more xs (f c.args.base) c.args.shift c.args.part c.loop-at.at c.part_of.result
    c.loop-at.invariant (omega arith) own c.if-part_of-part.true (omega arith)
