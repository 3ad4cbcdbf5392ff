use Rattle.ipnetwork_blocks.proofs.Known.{ℕ, subst, List, map, take, take-map, All-permutation, IsPermutation-map, IsPermutation, Network, IsCidrBlock, IsAggregate, in_order_from_sort, aggregate_of_sorted}
use Rattle.ipnetwork_blocks.proofs.aggregate.aggregate_held.Goals as goal

pub join_sorted-requires-clause-held : goal.join_sorted-requires-clause-held
join_sorted-requires-clause-held g c =
    All-permutation g.H.HoldsNetwork.holds c.clear_host_bits.new.values c.sort_unstable.new.self
    c.sort_unstable.ensures.permutation c.clear_host_bits.ensures.held

pub join_sorted-requires-clause-blocks : goal.join_sorted-requires-clause-blocks
join_sorted-requires-clause-blocks g c =
    All-permutation (IsCidrBlock g.N.CidrNetwork.WIDTH) (map g.H.HoldsNetwork.held c.clear_host_bits.new.values)
    (map g.H.HoldsNetwork.held c.sort_unstable.new.self)
    (IsPermutation-map g.H.HoldsNetwork.held c.clear_host_bits.new.values c.sort_unstable.new.self
    c.sort_unstable.ensures.permutation) c.clear_host_bits.ensures.blocks

pub join_sorted-requires-clause-order : goal.join_sorted-requires-clause-order
join_sorted-requires-clause-order g c =
    in_order_from_sort g.H.HoldsNetwork.held g.H.HoldsNetwork.holds g.H.Ord.cmp c.sort_unstable.new.self
    g.met.H.HoldsNetwork.held_order
    (All-permutation g.H.HoldsNetwork.holds c.clear_host_bits.new.values c.sort_unstable.new.self
    c.sort_unstable.ensures.permutation c.clear_host_bits.ensures.held)
    c.sort_unstable.ensures.sorted

pub returns-clause-aggregate : goal.returns-clause-aggregate
returns-clause-aggregate g c =
    let w : ℕ = g.N.CidrNetwork.WIDTH in
    let ns : List Network = map g.H.HoldsNetwork.held c.args.values.now in
    let zs : List Network = map g.H.HoldsNetwork.held c.sort_unstable.new.self in
    subst (λ (r : List Network). IsAggregate w ns r)
    (take-map g.H.HoldsNetwork.held c.join_sorted.result c.join_sorted.new.values)
    (aggregate_of_sorted w ns zs (take c.join_sorted.result (map g.H.HoldsNetwork.held c.join_sorted.new.values))
    (subst (λ (ms : List Network). IsPermutation ms zs) c.clear_host_bits.ensures.cleared
    (IsPermutation-map g.H.HoldsNetwork.held c.clear_host_bits.new.values c.sort_unstable.new.self
    c.sort_unstable.ensures.permutation))
    c.join_sorted.ensures.joined c.join_sorted.ensures.union)
