use Rattle.ipnetwork_sets.proofs.Known.{◌≡◌, ◌≤◌, take, vec_capacity, filter_map, as_v4, as_v6}
use Rattle.ipnetwork_sets.proofs.ip_sets.ip_address_set.IpAddressSet.from_networks.Given as goal

abbrev pub invariant-loop-network : goal.invariant-loop-network
invariant-loop-network l = record {
  v4 : l.v4_memory.items ≡ filter_map as_v4 (take l.network-index l.networks);
  v6 : l.v6_memory.items ≡ filter_map as_v6 (take l.network-index l.networks);
  v4_room : vec_capacity l.fn.v4_memory ≤ vec_capacity l.v4_memory;
  v6_room : vec_capacity l.fn.v6_memory ≤ vec_capacity l.v6_memory;
}
