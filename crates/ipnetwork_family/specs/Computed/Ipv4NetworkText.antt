-- The result of reading an IPv4 network, computed.
use Rattle.std.specs.Prelude.{ℕ, nat_le, if◌then◌else◌, List, Option, None, Some, Result}
use Rattle.ipnetwork_addr.specs.Computed.Ipv4Text.{v4_of}
use Rattle.ipnetwork_family.specs.Network.{Network}
use Rattle.ipnetwork_family.specs.Computed.Network.{prefix_of_mask}
use Rattle.ipnetwork_family.specs.Computed.NetworkText.{network_of}
use Rattle.ipnetwork_family.specs.Computed.PrefixNumber.{prefix_number_of}
use Rattle.ipnetwork_family.specs.declared.error.CidrFault.{CidrFault}

-- the prefix length of the mask, if there is a number and it is a mask
abbrev pub masked : Option ℕ → Option ℕ
masked None = None
masked (Some mask) = prefix_of_mask 32 mask

-- the prefix length that a text gives as a number of at most 32, or otherwise as a mask
abbrev pub v4_length_from : Option ℕ → Option ℕ → Option ℕ
v4_length_from None mask = masked mask
v4_length_from (Some number) mask = if nat_le number 32 then Some number else masked mask

-- the prefix length that a suffix gives, if any
abbrev pub v4_length_of : List ℕ → Option ℕ
v4_length_of text = v4_length_from (prefix_number_of text) (v4_of text)

-- the result of reading the text
abbrev pub v4_network_of : List ℕ → Result Network CidrFault
v4_network_of text = network_of 32 v4_of v4_length_of text
