use Rattle.ipnetwork_sets.proofs.Known.{◌≡◌, ◌+◌, ◌++◌, ◌∷◌, [], ℕ, List, map, take, sym, ap, ◌∙◌, arith, length-map, take_more, Network, count_number, read_pair, counts_more}
use Rattle.ipnetwork_sets.proofs.counting.count_blocks.Goals as goal

pub loop-block-preserved : goal.loop-block-preserved
loop-block-preserved g c =
    let w : ℕ = g.N.CidrNetwork.WIDTH in
    let ns : List Network = map g.N.CidrNetwork.pair c.args.blocks.now in
    let size = length-map c.args.blocks.now g.N.CidrNetwork.pair in
    let i : ℕ = c.loop-block.block-index in
    let b : Network = g.N.CidrNetwork.pair c.block-item.result in
    let is = read_pair g.N.CidrNetwork.pair c.args.blocks.now i c.block-item.result (omega arith) c.block-item.is in
    let longer : take (i + 1) ns ≡ take i ns ++ b ∷ [] = take_more ns i b (omega arith)
    ∙ ap (λ n. take i ns ++ n ∷ []) (sym is) in
    counts_more w (count_number c.loop-block.count) (count_number c.add_block-count.result) (take i ns)
    (take (i + 1) ns) b c.loop-block.invariant longer c.add_block-count.ensures
