-- What the C structs represent. An address in C is its octets in network order, the highest first (RFC 791,
-- appendix B; RFC 8200, section 3), as `struct in_addr` and `struct in6_addr` have them.
use Rattle.std.specs.Prelude.{◌≡◌, ℕ, ◌≤◌, List}
use Rattle.std.specs.Int.Digits.{number_from_digits}
use Rattle.ipnetwork_addr.specs.Digits.{octets_of, octets_of_v6}
use Rattle.ipnetwork_family.specs.Network.{Network}
use Rattle.ipnetwork_c.specs.declared.structs.Ipv4InC.{Ipv4InC}
use Rattle.ipnetwork_c.specs.declared.structs.Ipv6InC.{Ipv6InC}

-- the number of the address with these octets
abbrev pub number_of_octets : List ℕ → ℕ
number_of_octets octets = number_from_digits 256 octets

-- the address and prefix length in a struct, even if the prefix length does not fit
abbrev pub v4_in : Ipv4InC → Network
v4_in held = record { address = number_of_octets held.address; prefix = held.prefix }

abbrev pub v6_in : Ipv6InC → Network
v6_in held = record { address = number_of_octets held.address; prefix = held.prefix }

-- the prefix length is at most w, the width of addresses in bits
abbrev pub PrefixFits : ℕ → Network → Type 0
PrefixFits w n = n.prefix ≤ w

-- the struct holds the network
abbrev pub HoldsV4 : Ipv4InC → Network → Type 0
HoldsV4 held n = (held.address ≡ octets_of n.address) × (held.prefix ≡ n.prefix)

abbrev pub HoldsV6 : Ipv6InC → Network → Type 0
HoldsV6 held n = (held.address ≡ octets_of_v6 n.address) × (held.prefix ≡ n.prefix)
