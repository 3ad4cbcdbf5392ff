-- The zones that hold the reverse names of a network (RFC 1035, section 3.5; RFC 3596, section 2.5).
use Rattle.std.specs.Prelude.{ℕ, zero, suc, ◌+◌, ◌-◌, ◌*◌, ◌/◌, ◌%◌, ◌^◌, ◌==◌, ◌&&◌, not, List, [], ◌∷◌, ◌++◌, nat_lt}
use Rattle.std.specs.Prelude.{if◌then◌else◌, codes, decimal}
use Rattle.ipnetwork_family.specs.Network.{Network, low}
use Rattle.ipnetwork.specs.declared.ip_network.IpNetwork.{IpNetwork}
use Rattle.ipnetwork.specs.declared.ip_network.IpNetwork.TheVariants.{V4, V6}
use Rattle.cidr_info.specs.Numbers.{hex_digit, hex_digits}

-- the octet of an IPv4 address that comes after `place` others
abbrev pub octet_at : ℕ → ℕ → ℕ
octet_at place address = address / 2 ^ (8 * (3 - place)) % 256

-- the nibble of an IPv6 address that comes after `place` others
abbrev pub nibble_at : ℕ → ℕ → ℕ
nibble_at place address = address / 2 ^ (4 * (31 - place)) % 16

-- the labels of the first `count` octets of an IPv4 address, the last of them first, each followed by a dot
abbrev pub octet_labels : ℕ → ℕ → List ℕ
octet_labels zero address = []
octet_labels (suc count) address = decimal (octet_at count address) ++ codes "." ++ octet_labels count address

-- the labels of the first `count` nibbles of an IPv6 address, the last of them first, each followed by a dot
abbrev pub nibble_labels : ℕ → ℕ → List ℕ
nibble_labels zero address = []
nibble_labels (suc count) address = hex_digit (nibble_at count address) ∷ codes "." ++ nibble_labels count address

-- the reverse zone of whole octets: the labels of the octets that the prefix length covers in full, or of the nibbles of
-- IPv6, and the two labels of its family
abbrev pub zone_of : IpNetwork → List ℕ
zone_of (V4 network) = octet_labels (network.prefix / 8) network.address ++ codes "in-addr.arpa"
zone_of (V6 network) = nibble_labels (network.prefix / 4) network.address ++ codes "ip6.arpa"

-- how many reverse zones a network has, which together have its names and no others: one if the prefix length covers
-- whole octets, or nibbles, and twice as many for each bit that it lacks of them. An IPv4 network of less than 256
-- addresses has part of a zone (RFC 2317)
abbrev pub zone_count : IpNetwork → ℕ
zone_count (V4 network) = if nat_lt network.prefix 24 then 2 ^ ((8 - network.prefix % 8) % 8) else 1
zone_count (V6 network) = 2 ^ ((4 - network.prefix % 4) % 4)

-- the label, with a dot, of the octet that the prefix length covers in part, if there is one, in the zone that comes
-- after `place` others: the octet of the lowest address, and so on in ascending order
abbrev pub octet_label : Network → ℕ → List ℕ
octet_label network place =
    if nat_lt network.prefix 24 && not (network.prefix % 8 == 0)
    then decimal (octet_at (network.prefix / 8) (low 32 network) + place) ++ codes "." else []

-- and that of the nibble
abbrev pub nibble_label : Network → ℕ → List ℕ
nibble_label network place =
    if not (network.prefix % 4 == 0)
    then hex_digits 1 (nibble_at (network.prefix / 4) (low 128 network) + place) ++ codes "." else []

-- the reverse zone of a network that comes after `place` others: that label, and the zone of whole octets or nibbles
abbrev pub zone_at : IpNetwork → ℕ → List ℕ
zone_at (V4 network) place = octet_label network place ++ zone_of (V4 network)
zone_at (V6 network) place = nibble_label network place ++ zone_of (V6 network)
