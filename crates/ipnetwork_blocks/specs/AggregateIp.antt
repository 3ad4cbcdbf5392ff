-- Aggregation of networks of either family: each family is aggregated separately.
use Rattle.std.specs.Prelude.{◌≡◌, List, ◌++◌, map, Option, None, Some}
use Rattle.std.specs.List.{filter_map}
use Rattle.ipnetwork_family.specs.Network.{Network}
use Rattle.ipnetwork.specs.declared.ip_network.IpNetwork.{IpNetwork}
use Rattle.ipnetwork.specs.declared.ip_network.IpNetwork.TheVariants.{V4, V6}
use Rattle.ipnetwork_blocks.specs.Aggregate.{IsAggregate}

-- the network if it is an IPv4 network, and then the network if it is an IPv6 network
abbrev pub as_v4 : IpNetwork → Option Network
as_v4 (V4 n) = Some n
as_v4 (V6 n) = None

abbrev pub as_v6 : IpNetwork → Option Network
as_v6 (V4 n) = None
as_v6 (V6 n) = Some n

-- the result is the aggregate of the IPv4 networks followed by the aggregate of the IPv6 networks
abbrev pub IsIpAggregate : List IpNetwork → List IpNetwork → Type 0
IsIpAggregate networks result = (v4 : List Network) × (v6 : List Network) × (result ≡ map V4 v4 ++ map V6 v6)
    × IsAggregate 32 (filter_map as_v4 networks) v4 × IsAggregate 128 (filter_map as_v6 networks) v6
