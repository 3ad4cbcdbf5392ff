use Rattle.ipnetwork_sets.proofs.Known.{◌≡◌, ◌-◌, ℕ, List, map, sym, refl, subst, ◌∙◌, arith, iff_false, length-map, get_or_default, Network, Follows, check_goes_on, checked, set_has_block, set_follows, refused, read_held}
use Rattle.ipnetwork_sets.proofs.check.is_address_set.Goals as goal
use Rattle.ipnetwork_sets.proofs.check.is_address_set.Goals.{else-next-gt0-via-then-next-gt0+else-not-follows, else-next-gt0-via-else-next-gt0}

pub returns-then-not-has_no_host_bits : goal.returns-then-not-has_no_host_bits
returns-then-not-has_no_host_bits g c =
    let held = g.H.HoldsNetwork.held in
    let size = length-map c.args.list.now held in
    let is = read_held held c.args.list.now c.loop-next.next c.index-list-next.result _ (omega arith)
    c.index-list-next.is c.held_network-block.ensures in
    refused (λ h. iff_false c.has_no_host_bits.ensures.told c.if-not-has_no_host_bits.true
    (set_has_block g.N.CidrNetwork.WIDTH (map held c.args.list.now) c.loop-next.next _ c.one_block.ensures.apart h
    (omega arith) is))

pub held_network-block-requires : goal.held_network-block-requires
held_network-block-requires g c =
    subst g.H.HoldsNetwork.holds (sym c.index-list-next.is)
    (c.requires c.loop-next.next c.index-list-next.result (omega arith))

pub held_network-requires : goal.held_network-requires
held_network-requires g c =
    subst g.H.HoldsNetwork.holds (sym c.index-list-next-then-next-gt0.is)
    (c.requires (c.loop-next.next - 1) c.index-list-next-then-next-gt0.result (omega arith))

pub returns-then-not-follows : goal.returns-then-not-follows
returns-then-not-follows g c =
    let held = g.H.HoldsNetwork.held in
    let size = length-map c.args.list.now held in
    let i : ℕ = c.loop-next.next in
    let is = read_held held c.args.list.now i c.index-list-next.result _ (omega arith) c.index-list-next.is
    c.held_network-block.ensures in
    let at = read_held held c.args.list.now (i - 1) c.index-list-next-then-next-gt0.result _ (omega arith)
    c.index-list-next-then-next-gt0.is c.held_network.ensures in
    refused (λ h. iff_false c.follows.ensures c.if-not-follows.true
    (set_follows g.N.CidrNetwork.WIDTH (map held c.args.list.now) i _ _ c.one_block.ensures.apart h (omega arith)
    (omega arith) at is))

pub loop-next-preserved : goal.loop-next-preserved
loop-next-preserved g c =
    let w : ℕ = g.N.CidrNetwork.WIDTH in
    let ns : List Network = map g.H.HoldsNetwork.held c.args.list.now in
    let size = length-map c.args.list.now g.H.HoldsNetwork.held in
    let i : ℕ = c.loop-next.next in
    let b : Network = g.N.CidrNetwork.pair c.held_network-block.result in
    let is = read_held g.H.HoldsNetwork.held c.args.list.now i c.index-list-next.result b (omega arith)
    c.index-list-next.is c.held_network-block.ensures in
    check_goes_on w ns i b c.loop-next.invariant (omega arith) is c.has_no_host_bits.ensures.network
    (c.has_no_host_bits.ensures.told.0 c.if-not-has_no_host_bits.false)
    (λ a some from. elim c.else-next-gt0.branch [
      | else-next-gt0-via-then-next-gt0+else-not-follows v ↦
          let t : Network = g.N.CidrNetwork.pair v.held_network.result in
          let at = read_held g.H.HoldsNetwork.held c.args.list.now (i - 1) v.index-list-next-then-next-gt0.result t
          (omega arith) v.index-list-next-then-next-gt0.is v.held_network.ensures in
          let same : t ≡ a = at ∙ get_or_default ns (i - 1) t a (omega arith) ∙ sym from in
          subst (λ (n : Network). Follows w n b) same (v.follows.ensures.0 v.if-not-follows.false)
      | else-next-gt0-via-else-next-gt0 v ↦ absurd (omega arith)
    ])

pub returns : goal.returns
returns g c =
    let w : ℕ = g.N.CidrNetwork.WIDTH in
    let ns : List Network = map g.H.HoldsNetwork.held c.args.list.now in
    let size = length-map c.args.list.now g.H.HoldsNetwork.held in
    ((λ t. checked w ns c.loop-next.next c.loop-next.invariant (omega arith)), (λ h. refl))
