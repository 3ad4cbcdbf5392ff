-- The laws of aggregation for networks of either family: the laws for one family, carried over to addresses of both.
use Rattle.std.specs.Prelude.{◌↔◌, List}
use Rattle.std.specs.List.{Contains}
use Rattle.ipnetwork_addr.specs.declared.ip.IpAddr.{IpAddr}
use Rattle.ipnetwork.specs.IpNetworks.{IsIpNetwork, IpMember, IpSubnet}
use Rattle.ipnetwork.specs.declared.ip_network.IpNetwork.{IpNetwork}
use Rattle.ipnetwork_blocks.specs.AggregateIp.{IsIpAggregate}

-- the address lies in the union of the networks: it is a member of one of them
abbrev pub InIpUnion : List IpNetwork → IpAddr → Type 0
InIpUnion networks x = (n : IpNetwork) × Contains networks n × IpMember n x

-- every address of the network lies in the union of the others
abbrev pub LiesInIpUnion : IpNetwork → List IpNetwork → Type 0
LiesInIpUnion n networks = (x : IpAddr) → IpMember n x → InIpUnion networks x

-- a network lies in the union exactly if it lies in a single block of the aggregate
abbrev pub IpAggregateHasNetworks : Type 0
IpAggregateHasNetworks = (networks blocks : List IpNetwork) → IsIpAggregate networks blocks → (n : IpNetwork)
    → IsIpNetwork n
    → LiesInIpUnion n networks ↔ ((b : IpNetwork) × Contains blocks b × IpSubnet n b)
