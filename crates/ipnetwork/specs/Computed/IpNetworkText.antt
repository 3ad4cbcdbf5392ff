-- What reading a network of either family returns, computed.
use Rattle.std.specs.Prelude.{ℕ, List, Result, Ok, Err}
use Rattle.ipnetwork_family.specs.Network.{Network}
use Rattle.ipnetwork_family.specs.Computed.Ipv4NetworkText.{v4_network_of}
use Rattle.ipnetwork_family.specs.Computed.Ipv6NetworkText.{v6_network_of}
use Rattle.ipnetwork_family.specs.declared.error.CidrFault.{CidrFault}
use Rattle.ipnetwork_family.specs.declared.error.CidrFault.TheVariants.{Addr}
use Rattle.ipnetwork.specs.declared.ip_network.IpNetwork.{IpNetwork}
use Rattle.ipnetwork.specs.declared.ip_network.IpNetwork.TheVariants.{V4, V6}

-- what reading returns, given what reading in each family returns: the network of the family that has one, or `Addr`
abbrev pub either_network_of : Result Network CidrFault → Result Network CidrFault → Result IpNetwork CidrFault
either_network_of (Ok n) v6 = Ok (V4 n)
either_network_of (Err fault) (Ok n) = Ok (V6 n)
either_network_of (Err fault) (Err other) = Err Addr

-- what reading a text returns
abbrev pub ip_network_of : List ℕ → Result IpNetwork CidrFault
ip_network_of text = either_network_of (v4_network_of text) (v6_network_of text)
