use Rattle.ipnetwork_sets.proofs.Known.{◌≡◌, ℕ, suc, ◌+◌, List, take, sym, ap, ◌∙◌, arith, filter_map, IpNetwork, as_v4, as_v6, failed, one_more, aggregate_of_parts, too_little_for_all}
use Rattle.std.proofs.Common.{take_all}
use Rattle.ipnetwork_sets.proofs.ip_sets.ip_address_set.IpAddressSet.from_networks.Goals as goal

pub loop-network-preserved : goal.loop-network-preserved
loop-network-preserved c =
    let ns : List IpNetwork = c.args.networks.now in
    let i : ℕ = c.loop-network.network-index in
    let next : suc i ≡ i + 1 = omega arith in
    record {
      v4 =
          one_more as_v4 ns i c.network-item.result _ _ c.loop-network-test.true (sym c.network-item.is)
          c.loop-network.invariant.v4 c.in_ok-push_network.ensures.v4
          ∙ ap (λ (k : ℕ). filter_map as_v4 (take k ns)) next;
      v6 =
          one_more as_v6 ns i c.network-item.result _ _ c.loop-network-test.true (sym c.network-item.is)
          c.loop-network.invariant.v6 c.in_ok-push_network.ensures.v6
          ∙ ap (λ (k : ℕ). filter_map as_v6 (take k ns)) next;
      v4_room = omega (arith, c.loop-network.invariant.v4_room, c.push_network.ensures.v4_capacity);
      v6_room = omega (arith, c.loop-network.invariant.v6_room, c.push_network.ensures.v6_capacity);
    }

pub returns-in_err-push_network-clause-room : goal.returns-in_err-push_network-clause-room
returns-in_err-push_network-clause-room c =
    failed c.from_residual.result
    (too_little_for_all c.args.networks.now c.loop-network.network-index c.network-item.result
    c.loop-network.v4_memory.items c.loop-network.v6_memory.items _ _ _ _ _ _
    c.loop-network-test.true (sym c.network-item.is) c.loop-network.invariant.v4 c.loop-network.invariant.v6
    c.loop-network.v4_memory.ok.0 c.loop-network.v6_memory.ok.0
    c.loop-network.invariant.v4_room c.loop-network.invariant.v6_room c.in_err-push_network.ensures.room)

pub returns-clause-set : goal.returns-clause-set
returns-clause-set c =
    let ns : List IpNetwork = c.args.networks.now in
    let i : ℕ = c.loop-network.network-index in
    let all : take i ns ≡ ns = take_all i ns (omega arith) in
    aggregate_of_parts ns c.from_lists.result _ _ (c.loop-network.invariant.v4 ∙ ap (filter_map as_v4) all)
    (c.loop-network.invariant.v6 ∙ ap (filter_map as_v6) all) c.from_lists.ensures
