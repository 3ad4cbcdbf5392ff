use Rattle.ipnetwork_blocks.proofs.Known.{◌+◌, ◌<◌, ◌^◌, ℕ, ap, ◌∙◌, subst, Network, high, block_at, followed}
use Rattle.ipnetwork_blocks.proofs.following_block.following.Goals as goal

pub returns-in-Some : goal.returns-in-Some
returns-in-Some g c =
    let w : ℕ = g.N.CidrNetwork.WIDTH in
    let n : Network = g.N.CidrNetwork.pair c.args.network in
    let x : ℕ = g.N.CidrNetwork.number c.in-Some.next in
    let fits : high w n + 1 < 2 ^ w = subst (λ (k : ℕ). k + 1 < 2 ^ w) c.broadcast.ensures c.in-Some.ensures.0 in
    followed w x n (g.N.CidrNetwork.pair c.block_at.result) fits
    (c.in-Some.ensures.1 ∙ ap (λ k. k + 1) c.broadcast.ensures)
    (c.block_at.ensures.made ∙ ap (λ p. block_at w x p) c.prefix.ensures.made)
