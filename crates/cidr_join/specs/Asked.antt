-- What is found in a line, as a network.
use Rattle.std.specs.Prelude.{ℕ, Bool, List, Option, None, Some, Result, Ok, Err, if◌then◌else◌}
use Rattle.ipnetwork_addr.specs.declared.ip.IpAddr.{IpAddr}
use Rattle.ipnetwork_family.specs.declared.error.CidrFault.{CidrFault}
use Rattle.ipnetwork.specs.Computed.IpNetworkText.{ip_network_of}
use Rattle.ipnetwork.specs.IpNetworks.{made_of, width_of}
use Rattle.ipnetwork.specs.declared.ip_network.IpNetwork.{IpNetwork}
use Rattle.line_addresses.specs.Addresses.{Spelled}

-- the network that has only this address
abbrev pub only : IpAddr → IpNetwork
only address = made_of address (width_of address)

-- the network that a text names, if it names one
abbrev pub network_read : Result IpNetwork CidrFault → Option IpNetwork
network_read (Ok network) = Some network
network_read (Err fault) = None

abbrev pub named_network : List ℕ → Option IpNetwork
named_network text = network_read (ip_network_of text)

-- what was found in a line, as a network: the one that its text names, if networks are looked for, or that of its one
-- address
abbrev pub network_of : Bool → Spelled → Option IpNetwork
network_of networks found = if networks then named_network found.text else Some (only found.address)

abbrev pub network_of_found : Bool → Option Spelled → Option IpNetwork
network_of_found networks None = None
network_of_found networks (Some found) = network_of networks found
