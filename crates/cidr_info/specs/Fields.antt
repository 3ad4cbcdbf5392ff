-- The fields that are printed about a network.
use Rattle.std.specs.Prelude.{ℕ, ◌+◌, ◌-◌, ◌^◌, List, [], ◌∷◌, ◌++◌, nat_lt, if◌then◌else◌, codes, decimal}
use Rattle.ipnetwork_addr.specs.Either.{canonical_ip}
use Rattle.ipnetwork_addr.specs.declared.ip.IpAddr.{IpAddr}
use Rattle.ipnetwork_addr.specs.declared.ip.IpAddr.TheVariants as addresses
use Rattle.ipnetwork_family.specs.Network.{Network, low, high, mask_of}
use Rattle.ipnetwork.specs.IpNetworks.{address_of, prefix_of, ip_mask_of, ip_low, ip_high, made_of}
use Rattle.ipnetwork.specs.IpNetworkText.{ip_network_text}
use Rattle.ipnetwork.specs.declared.ip_network.IpNetwork.{IpNetwork}
use Rattle.ipnetwork.specs.declared.ip_network.IpNetwork.TheVariants.{V4, V6}
use Rattle.cidr_info.specs.Numbers.{hex_text}
use Rattle.cidr_info.specs.Zones.{zone_of, zone_at, zone_count}
use Rattle.cidr_info.specs.declared.field.Field.{Field}
use Rattle.cidr_info.specs.declared.field.Field.TheVariants as says
use Rattle.cidr_info.specs.declared.field.Form.{Form}
use Rattle.cidr_info.specs.declared.field.Form.TheVariants as forms

-- the fields, in the order in which they are printed
abbrev pub fields : List Field
fields = says.Address ∷ says.Network ∷ says.Mask ∷ says.Wildcard ∷ says.First ∷ says.Last ∷ says.Hosts
    ∷ says.Addresses ∷ says.Reverse ∷ says.Zones ∷ says.Integer ∷ says.Hexadecimal ∷ []

-- the text of a network without its host bits
abbrev pub block_text : IpNetwork → List ℕ
block_text network = ip_network_text (made_of (ip_low network) (prefix_of network))

-- the wildcard of a network: the complement of its mask, as an address
abbrev pub wildcard_of : IpNetwork → IpAddr
wildcard_of (V4 network) = addresses.V4 (2 ^ 32 - 1 - mask_of 32 network.prefix)
wildcard_of (V6 network) = addresses.V6 (2 ^ 128 - 1 - mask_of 128 network.prefix)

-- the first and the last address that a host of an IPv4 network may have: up to prefix length 30 the lowest and the
-- highest address are left out (RFC 1122, section 3.2.1.3), and above 30 they are not (RFC 3021)
abbrev pub v4_hosts_of : Network → ℕ × ℕ
v4_hosts_of network =
    if nat_lt 30 network.prefix then (low 32 network, high 32 network)
    else (low 32 network + 1, high 32 network - 1)

-- the first and the last address that a host of a network may have; in an IPv6 network these are the lowest and the
-- highest
abbrev pub hosts_of : IpNetwork → IpAddr × IpAddr
hosts_of (V4 network) = (addresses.V4 (v4_hosts_of network).0, addresses.V4 (v4_hosts_of network).1)
hosts_of (V6 network) = (addresses.V6 (low 128 network), addresses.V6 (high 128 network))

-- the first and the last address that a host may have, in canonical form, with ` - ` between them
abbrev pub hosts_text : IpNetwork → List ℕ
hosts_text network = canonical_ip (hosts_of network).0 ++ codes " - " ++ canonical_ip (hosts_of network).1

-- the number of host bits: the bits of an address of the family less the prefix length
abbrev pub host_bits : IpNetwork → ℕ
host_bits (V4 network) = 32 - network.prefix
host_bits (V6 network) = 128 - network.prefix

-- the address as a number
abbrev pub number_of : IpAddr → ℕ
number_of (addresses.V4 address) = address
number_of (addresses.V6 address) = address

-- the number of hexadecimal digits of an address of this family: 8 for IPv4, 32 for IPv6
abbrev pub hex_width : IpAddr → ℕ
hex_width (addresses.V4 address) = 8
hex_width (addresses.V6 address) = 32

-- how many values of a field are printed: on lines the zones, if they are at most eight, and else the one of whole
-- octets; in JSON all; alone only the zones. Of every other field it is one
abbrev pub count_of : Form → Field → IpNetwork → ℕ
count_of forms.Lines says.Reverse network = if nat_lt 8 (zone_count network) then 1 else 0
count_of forms.Lines says.Zones network = if nat_lt 8 (zone_count network) then 0 else zone_count network
count_of form says.Zones network = zone_count network
count_of forms.Zones field network = 0
count_of form field network = 1

-- the value of a field of a network, as text; of the zones, the one that comes after `place` others
abbrev pub value_of : Field → IpNetwork → ℕ → List ℕ
value_of says.Address network place = canonical_ip (address_of network)
value_of says.Network network place = block_text network
value_of says.Mask network place = canonical_ip (ip_mask_of network)
value_of says.Wildcard network place = canonical_ip (wildcard_of network)
value_of says.First network place = canonical_ip (ip_low network)
value_of says.Last network place = canonical_ip (ip_high network)
value_of says.Hosts network place = hosts_text network
value_of says.Addresses network place = decimal (2 ^ host_bits network)
value_of says.Reverse network place = zone_of network
value_of says.Zones network place = zone_at network place
value_of says.Integer network place = decimal (number_of (address_of network))
value_of says.Hexadecimal network place =
    hex_text (hex_width (address_of network)) (number_of (address_of network))
