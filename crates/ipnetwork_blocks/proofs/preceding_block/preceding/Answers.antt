use Rattle.ipnetwork_blocks.proofs.Known.{ℕ, ap, ◌∙◌, Network, block_at, preceded}
use Rattle.ipnetwork_blocks.proofs.preceding_block.preceding.Goals as goal

pub returns-in-Some : goal.returns-in-Some
returns-in-Some g c =
    let w : ℕ = g.N.CidrNetwork.WIDTH in
    let n : Network = g.N.CidrNetwork.pair c.args.network in
    let x : ℕ = g.N.CidrNetwork.number c.in-Some.previous in
    preceded w x n (g.N.CidrNetwork.pair c.block_at.result) (c.in-Some.ensures ∙ c.network.ensures)
    (c.block_at.ensures.made ∙ ap (λ p. block_at w x p) c.prefix.ensures.made)
