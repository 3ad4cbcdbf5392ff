use Rattle.reducing.proofs.Known.{ℕ, subst, arith, SharesBits, Network, low, joined_prefix, joined_spans}
use Rattle.reducing.proofs.joining.joined_prefix.Goals as goal

pub returns-clause-joined : goal.returns-clause-joined
returns-clause-joined g c =
    let w : ℕ = g.N.CidrNetwork.WIDTH in
    let a : Network = g.N.CidrNetwork.pair c.args.first in
    let b : Network = g.N.CidrNetwork.pair c.args.second in
    let s : ℕ = c.shared_bits-shared.result in
    let first : SharesBits w (low w a) (g.N.CidrNetwork.number c.network-2.result) s =
    subst (λ (x : ℕ). SharesBits w x (g.N.CidrNetwork.number c.network-2.result) s) c.network.ensures
    c.shared_bits-shared.ensures in
    let shares : SharesBits w (low w a) (low w b) s =
    subst (λ (y : ℕ). SharesBits w (low w a) y s) c.network-2.ensures first in
    joined_prefix w s _ a b c.prefix.ensures.network c.prefix-2.ensures.network shares
    (omega (arith, c.min.ensures, c.min-2.ensures, c.prefix.ensures.made, c.prefix-2.ensures.made))

pub returns-clause-smallest : goal.returns-clause-smallest
returns-clause-smallest g c = joined_spans _ _ _ c.prefix.ensures.network c.prefix-2.ensures.network
