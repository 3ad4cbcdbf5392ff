use Rattle.ipnetwork_blocks.proofs.Known.{◌≡◌, ℕ, List, ◌+◌, ◌∷◌, ◌++◌, [], take, map, length, ◌<◌, sym, ap, subst, ◌∙◌, Network, IsNetwork, IsSpanning, not_empty, spans_one, spans_more, spans_once, item_of, one_more_taken, all_taken}
use Rattle.ipnetwork_blocks.proofs.spanning_block.spanning.Goals as goal

pub loop-network-init : goal.loop-network-init
loop-network-init g c =
    let w : ℕ = g.N.CidrNetwork.WIDTH in
    let n : Network = g.N.CidrNetwork.pair c.index-networks-0.result in
    let some : 0 < length c.args.networks.now =
    not_empty c.args.networks.now (sym c.is_empty.ensures ∙ c.if-is_empty.false) in
    let block = subst (λ (b : Network). IsSpanning w (n ∷ []) b) (sym c.block-around.ensures.made)
    (spans_one w n (subst (λ (b : Network). IsNetwork w b) c.block-around.ensures.made c.block-around.ensures.network))
    in
    (n, item_of g.N.CidrNetwork.pair c.args.networks.now 0 c.index-networks-0.result some c.index-networks-0.is, block)

pub loop-network-preserved : goal.loop-network-preserved
loop-network-preserved g c =
    let w : ℕ = g.N.CidrNetwork.WIDTH in
    let xs : List Network = map g.N.CidrNetwork.pair c.args.networks.now in
    let i : ℕ = c.loop-network.network-index in
    let n : Network = c.loop-network.invariant.0 in
    let m : Network = g.N.CidrNetwork.pair c.network-item.result in
    let more : n ∷ take (i + 1) xs ≡ (n ∷ take i xs) ++ m ∷ [] =
    ap (λ l. n ∷ l) (one_more_taken g.N.CidrNetwork.pair c.args.networks.now i c.network-item.result
    c.loop-network-test.true c.network-item.is) in (
      n,
      c.loop-network.invariant.1,
      subst (λ (l : List Network). IsSpanning w l (g.N.CidrNetwork.pair c.around_both-around.result)) (sym more)
          (spans_more w (n ∷ take i xs) m (g.N.CidrNetwork.pair c.loop-network.around) _ c.loop-network.invariant.2
          c.around_both-around.ensures),
    )

pub returns : goal.returns
returns g c =
    let w : ℕ = g.N.CidrNetwork.WIDTH in
    let xs : List Network = map g.N.CidrNetwork.pair c.args.networks.now in
    let b : Network = g.N.CidrNetwork.pair c.loop-network.around in
    let n : Network = c.loop-network.invariant.0 in
    let whole : take c.loop-network.network-index xs ≡ xs =
    all_taken g.N.CidrNetwork.pair c.args.networks.now c.loop-network.network-index
    c.loop-network.auto.network-index-end c.loop-network-test.false in
    spans_once w xs n b c.loop-network.invariant.1
    (subst (λ (l : List Network). IsSpanning w (n ∷ l) b) whole c.loop-network.invariant.2)
