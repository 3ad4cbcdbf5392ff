-- Membership and subnets for either family, as Boolean tests.
use Rattle.std.specs.Prelude.{Bool, false}
use Rattle.ipnetwork_addr.specs.declared.ip.IpAddr.{IpAddr}
use Rattle.ipnetwork_addr.specs.declared.ip.IpAddr.TheVariants as addresses
use Rattle.ipnetwork_family.specs.Computed.Network.{is_member, is_subnet}
use Rattle.ipnetwork.specs.declared.ip_network.IpNetwork.{IpNetwork}
use Rattle.ipnetwork.specs.declared.ip_network.IpNetwork.TheVariants.{V4, V6}

-- whether an address is a member of a network; false across families
abbrev pub is_ip_member : IpNetwork → IpAddr → Bool
is_ip_member (V4 n) (addresses.V4 a) = is_member 32 n a
is_ip_member (V4 n) (addresses.V6 a) = false
is_ip_member (V6 n) (addresses.V4 a) = false
is_ip_member (V6 n) (addresses.V6 a) = is_member 128 n a

-- whether network a is a subnet of network b; false across families
abbrev pub is_ip_subnet : IpNetwork → IpNetwork → Bool
is_ip_subnet (V4 a) (V4 b) = is_subnet 32 a b
is_ip_subnet (V4 a) (V6 b) = false
is_ip_subnet (V6 a) (V4 b) = false
is_ip_subnet (V6 a) (V6 b) = is_subnet 128 a b
