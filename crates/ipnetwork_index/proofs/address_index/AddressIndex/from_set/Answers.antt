use Rattle.ipnetwork_index.proofs.Known.{◌≡◌, ◌↔◌, ℕ, true, List, map, ap, subst, ◌∙◌, InUnion, least_blocks, is_inside, set_cuts_rise, blocks_back, whole_low}
use Rattle.ipnetwork_index.proofs.address_index.AddressIndex.from_set.Goals as goal

pub closed-requires : goal.closed-requires
closed-requires g c = set_cuts_rise _ _ c.in_ok-cuts.ensures

pub new-requires-clause-partition : goal.new-requires-clause-partition
new-requires-clause-partition g c = rw c.as_slice.ensures.value c.in_ok-lasts.ensures.partition

pub invariant_of-result : goal.invariant_of-result
invariant_of-result g c = rw (c.in_ok-partition.ensures, c.as_slice.ensures.value)
    c.in_ok-lasts.ensures.partition

pub returns : goal.returns
returns g c =
    let f = g.N.CidrNetwork.number in
    let w : ℕ = g.N.CidrNetwork.WIDTH in
    let first = c.contains-first_is_in.result in
    let lasts : List ℕ = map f c.in_ok-lasts.lasts.items in
    let zero : f c.network.result ≡ 0 = c.network.ensures ∙ whole_low w _ c.whole.ensures in
    let tells : (first ≡ true) ↔ InUnion w c.args.set.now 0
    = subst (λ (x : ℕ). (first ≡ true) ↔ InUnion w c.args.set.now x) zero
    c.contains-first_is_in.ensures in
    let back : least_blocks w (is_inside first lasts) ≡ c.args.set.now
    = blocks_back w c.args.set.now first (map f c.in_ok-cuts.cuts.items) lasts
    c.blocks-2.ensures.set c.in_ok-cuts.ensures tells c.in_ok-lasts.ensures in
    let is : c.in_ok-partition.partition ≡ lasts = c.in_ok-partition.ensures
    ∙ ap (map f) c.as_slice.ensures.value in
    ap (λ (xs : List ℕ). least_blocks w (is_inside first xs)) is ∙ back
