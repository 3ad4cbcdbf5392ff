use Rattle.reducing.proofs.Known.{◌∷◌, [], subst, sym, ap₂, ◌∙◌, Network, block_at, IsSpanning, joined_at}
use Rattle.reducing.proofs.joining.joined.Goals as goal

pub returns-clause-joined : goal.returns-clause-joined
returns-clause-joined g c =
    c.block_at.ensures.made ∙ ap₂ (block_at g.N.CidrNetwork.WIDTH) c.network.ensures c.joined_prefix.ensures.joined
    ∙ sym (joined_at _ _ _)

pub returns-clause-smallest : goal.returns-clause-smallest
returns-clause-smallest g c =
    let a : Network = g.N.CidrNetwork.pair c.args.first in
    let b : Network = g.N.CidrNetwork.pair c.args.second in
    let is = c.block_at.ensures.made ∙ ap₂ (block_at g.N.CidrNetwork.WIDTH) c.network.ensures
    c.joined_prefix.ensures.joined ∙ sym (joined_at g.N.CidrNetwork.WIDTH a b) in
    subst (λ (t : Network). IsSpanning g.N.CidrNetwork.WIDTH (a ∷ b ∷ []) t) (sym is) c.joined_prefix.ensures.smallest
