-- The result of reading an IPv6 network, computed.
use Rattle.std.specs.Prelude.{ℕ, nat_le, if◌then◌else◌, List, Option, None, Some, Result}
use Rattle.ipnetwork_addr.specs.Computed.Ipv6Text.{v6_of}
use Rattle.ipnetwork_family.specs.Network.{Network}
use Rattle.ipnetwork_family.specs.Computed.NetworkText.{network_of}
use Rattle.ipnetwork_family.specs.Computed.PrefixNumber.{prefix_number_of}
use Rattle.ipnetwork_family.specs.declared.error.CidrFault.{CidrFault}

-- the number, if it is at most 128
abbrev pub v6_length_from : Option ℕ → Option ℕ
v6_length_from None = None
v6_length_from (Some number) = if nat_le number 128 then Some number else None

-- the prefix length that a suffix gives, if any
abbrev pub v6_length_of : List ℕ → Option ℕ
v6_length_of text = v6_length_from (prefix_number_of text)

-- the result of reading the text
abbrev pub v6_network_of : List ℕ → Result Network CidrFault
v6_network_of text = network_of 128 v6_of v6_length_of text
