use Rattle.ipnetwork_blocks.proofs.Known.{◌≡◌, ℕ, ◌∷◌, [], min, sym, ap, subst, ◌∙◌, arith, Network, low, block_at, SharesBits, IsSpanning, spans_both}
use Rattle.ipnetwork_blocks.proofs.spanning_block.around_both.Goals as goal

pub returns : goal.returns
returns g c =
    let w : ℕ = g.N.CidrNetwork.WIDTH in
    let a : Network = g.N.CidrNetwork.pair c.args.first in
    let b : Network = g.N.CidrNetwork.pair c.args.second in
    let s : ℕ = c.shared_bits-shared.result in
    let p : ℕ = c.min-prefix.result in
    let first : SharesBits w (low w a) (g.N.CidrNetwork.number c.network.result) s = subst (λ (x : ℕ). SharesBits w x
    (g.N.CidrNetwork.number c.network.result) s) c.network-begin.ensures c.shared_bits-shared.ensures in
    let shares : SharesBits w (low w a) (low w b) s =
    subst (λ (y : ℕ). SharesBits w (low w a) y s) c.network.ensures first in
    let is : p ≡ min (min s a.prefix) b.prefix =
    omega (arith, c.min-prefix.ensures, c.min.ensures, c.prefix.ensures.made, c.prefix-2.ensures.made) in
    subst (λ (r : Network). IsSpanning w (a ∷ b ∷ []) r)
    (sym (c.block_at.ensures.made ∙ ap (λ x. block_at w x p) c.network-begin.ensures))
    (spans_both w s p a b c.prefix.ensures.network c.prefix-2.ensures.network shares is)
