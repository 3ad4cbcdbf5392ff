-- The network that is looked up for a network of a line.
use Rattle.std.specs.Prelude.{◌-◌, Bool, nat_le, if◌then◌else◌}
use Rattle.ipnetwork_addr.specs.Either.{unmapped}
use Rattle.ipnetwork_addr.specs.declared.ip.IpAddr.{IpAddr}
use Rattle.ipnetwork_addr.specs.declared.ip.IpAddr.TheVariants as addresses
use Rattle.ipnetwork.specs.IpNetworks.{address_of, made_of, prefix_of}
use Rattle.ipnetwork.specs.declared.ip_network.IpNetwork.{IpNetwork}

-- a network with this address, if its prefix length is at least 96 and the address is the IPv4 address of an
-- IPv4-mapped
-- one, is the network of IPv4 addresses, and else it stays as it is
abbrev pub unmapped_by : IpNetwork → IpAddr → IpNetwork
unmapped_by network (addresses.V4 address) =
    if nat_le 96 (prefix_of network) then made_of (addresses.V4 address) (prefix_of network - 96) else network
unmapped_by network (addresses.V6 address) = network

-- a network whose addresses are all IPv4-mapped as the network of their IPv4 addresses, and any other as it is
abbrev pub unmapped_network : IpNetwork → IpNetwork
unmapped_network network = unmapped_by network (unmapped (address_of network))

-- the network that is looked up, with `--mapped` (`mapped`) or without it
abbrev pub asked_network : Bool → IpNetwork → IpNetwork
asked_network mapped network = if mapped then unmapped_network network else network
