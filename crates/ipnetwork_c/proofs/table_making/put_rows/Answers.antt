use Rattle.ipnetwork_c.proofs.Known.{ℕ, List, map, sym, subst, ◌∙◌, arith, length-map, Network, IsCidrBlock, row_put}
use Rattle.ipnetwork_c.proofs.table_making.put_rows.Goals as goal

pub loop-row-preserved : goal.loop-row-preserved
loop-row-preserved g c =
    let w : ℕ = g.N.CidrNetwork.WIDTH in
    let ns : List Network = map g.H.HoldsNetwork.held c.args.networks.now in
    row_put g.H.HoldsNetwork.held w ns c.args.places.now c.loop-row.blocks c.loop-row.row c.holding.result
    c.loop-row.invariant (omega arith) (c.holding.ensures.1 ∙ c.block_in.ensures.made)
    (subst (λ (n : Network). IsCidrBlock w n) c.block_in.ensures.made c.block_in.ensures.block)

pub returns-clause-blocks : goal.returns-clause-blocks
returns-clause-blocks g c = λ k d l.
    let size = length-map c.loop-row.blocks g.H.HoldsNetwork.held in
    let row = c.loop-row.invariant k (omega (arith, l, size)) in
    subst (λ (n : Network). IsCidrBlock g.N.CidrNetwork.WIDTH n) (sym (row.put d)) row.block
