use Rattle.ipnetwork_sets.proofs.Known.{[], ℕ, map, refl, sym, subst, ◌↔◌, arith, Network, IsCidrBlock, Member, block_same_set, own_address, network_starts, one_block_is_set}
use Rattle.ipnetwork_sets.proofs.difference.Difference.within.Goals as goal

pub invariant_of-result : goal.invariant_of-result
invariant_of-result g c =
    let w : ℕ = g.N.CidrNetwork.WIDTH in
    let b : Network = g.N.CidrNetwork.pair c.block-whole.result in
    let hb : IsCidrBlock w b =
    record { network = c.block-whole.ensures.network; block = c.block-whole.ensures.no_host_bits } in (
      (λ k x l. absurd (omega arith)),
      c.requires.0,
      (one_block_is_set w b hb, c.requires.1, own_address w b hb.network),
    )

pub returns : goal.returns
returns g c =
    let w : ℕ = g.N.CidrNetwork.WIDTH in
    let n : Network = g.N.CidrNetwork.pair c.args.network in
    let b : Network = g.N.CidrNetwork.pair c.block-whole.result in
    network_starts w n b b.address [] (map g.H.HoldsNetwork.held c.args.cut.now)
    (record { network = c.block-whole.ensures.network; block = c.block-whole.ensures.no_host_bits }) refl
    (λ x. subst (λ (k : Network). Member w k x ↔ Member w n x) (sym c.block-whole.ensures.made) (block_same_set w n x))
    refl
