-- Equality of sets of addresses of either family, as equality of their lists of blocks, by family.
use Rattle.std.specs.Prelude.{Bool, List}
use Rattle.std.specs.List.{filter_map}
use Rattle.std.specs.Ordering.{eq_of_both, on}
use Rattle.ipnetwork.specs.declared.ip_network.IpNetwork.{IpNetwork}
use Rattle.ipnetwork_blocks.specs.AggregateIp.{as_v4, as_v6}
use Rattle.ipnetwork_sets.specs.Equality.{same_blocks}

-- whether two lists have the same IPv4 networks in the same order, and likewise the same IPv6 networks
abbrev pub same_ip_blocks : List IpNetwork → List IpNetwork → Bool
same_ip_blocks = eq_of_both (on (filter_map as_v4) same_blocks) (on (filter_map as_v6) same_blocks)
