use Rattle.ipnetwork_blocks.proofs.Known.{◌≡◌, ◌+◌, ℕ, List, arith, ◌∙◌, ap, sym, subst, map, length-map, map-set, All-set, Network, IsCidrBlock, block_of, read_map, IsClearing, clearing_starts, clearing_more, cleared}
use Rattle.ipnetwork_blocks.proofs.aggregate.clear_host_bits.Goals as goal

pub loop-value-preserved : goal.loop-value-preserved
loop-value-preserved g c =
    let w : ℕ = g.N.CidrNetwork.WIDTH in
    let i : ℕ = c.loop-value.value-index in
    let xs : List Network = map g.H.HoldsNetwork.held c.args.values.now in
    let ys : List Network = map g.H.HoldsNetwork.held c.loop-value.values in
    let v : Network = g.H.HoldsNetwork.held c.holding.result in
    let size_x = length-map c.args.values.now g.H.HoldsNetwork.held in
    let size_y = length-map c.loop-value.values g.H.HoldsNetwork.held in
    let is = read_map g.H.HoldsNetwork.held c.loop-value.values i c.value-item.result (omega arith) c.value-item.is in
    let made : v ≡ block_of w (g.N.CidrNetwork.pair c.held_network.result) = c.holding.ensures.1
    ∙ c.block.ensures.made in
    let one : v ≡ block_of w (g.H.HoldsNetwork.held c.value-item.result) = made
    ∙ ap (block_of w) (c.held_network.ensures ∙ ap g.H.HoldsNetwork.held (sym c.value-item.is)) in
    let is_block : IsCidrBlock w v = subst (λ (n : Network). IsCidrBlock w n) (sym c.holding.ensures.1)
    (record { network = c.block.ensures.network; block = c.block.ensures.no_host_bits }) in (
      All-set g.H.HoldsNetwork.holds c.loop-value.values i c.holding.result c.holding.ensures.0
          c.loop-value.invariant.0,
      subst (λ (t : List Network). IsClearing w xs t (i + 1))
          (sym (map-set g.H.HoldsNetwork.held c.loop-value.values i c.holding.result))
          (clearing_more (g.H.HoldsNetwork.held c.value-item.result) v c.loop-value.invariant.1 (omega arith)
          (omega arith) is one is_block),
    )

pub loop-value-init : goal.loop-value-init
loop-value-init g c = (c.requires, clearing_starts g.N.CidrNetwork.WIDTH (map g.H.HoldsNetwork.held c.args.values.now))

pub returns : goal.returns
returns g c =
    let size_x = length-map c.args.values.now g.H.HoldsNetwork.held in
    let size_y = length-map c.loop-value.values g.H.HoldsNetwork.held in
    let done = cleared g.N.CidrNetwork.WIDTH (map g.H.HoldsNetwork.held c.args.values.now)
    (map g.H.HoldsNetwork.held c.loop-value.values)
    c.loop-value.value-index c.loop-value.invariant.1 (omega arith) (omega arith) in
    record { cleared = done.0; blocks = done.1; held = c.loop-value.invariant.0 }
