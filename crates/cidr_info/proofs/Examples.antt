-- Networks at which a misreading of the definitions would show. Each of these computes.
use Rattle.cidr_info.proofs.Words.{◌≡◌, [], ◌∷◌, ◌++◌, refl, codes, filter, None, range_with_len, digits, v6_of, gap_below, V4, V6, value_of, is_skipped, lines, lines_said, network_in, zone_of, ℕ, List, map, count_of, zone_at, zone_count, IpNetwork}
use Rattle.cidr_info.specs.declared.field.Field.TheVariants as says
use Rattle.cidr_info.specs.declared.field.Form.TheVariants as forms

-- the examples of RFC 1035, section 3.5, and of RFC 3596, section 2.5
pub of_rfc_1035 : zone_of (V4 (record { address = 167903284; prefix = 32 })) ≡ codes "52.0.2.10.in-addr.arpa"
unfolding digits
of_rfc_1035 = refl

pub of_rfc_3596 : zone_of (V6 (record { address = 89229621513922221759010526636441831851; prefix = 128 }))
    ≡ codes "b.a.9.8.7.6.5.0.4.0.0.0.3.0.0.0.2.0.0.0.1.0.0.0.0.0.0.0.1.2.3.4.ip6.arpa"
unfolding digits
of_rfc_3596 = refl

-- a prefix length between two octets, and none
pub whole_octets_alone : (zone_of (V4 (record { address = 167840032; prefix = 20 })) ≡ codes "1.10.in-addr.arpa")
    × (zone_of (V4 (record { address = 167840032; prefix = 7 })) ≡ codes "in-addr.arpa")
unfolding digits
whole_octets_alone = (refl, refl)

-- the zones of a network, in ascending order
abbrev zones_of : IpNetwork → List (List ℕ)
zones_of network = map (zone_at network) (range_with_len 0 (zone_count network))

-- 10.1.9.32/22, which begins at 10.1.8.0; a /24 and an address have one zone, as all of IPv4; a /26 has that of its /24
pub of_octets : (zones_of (V4 (record { address = 167840032; prefix = 22 })) ≡ codes "8.1.10.in-addr.arpa"
    ∷ codes "9.1.10.in-addr.arpa" ∷ codes "10.1.10.in-addr.arpa" ∷ codes "11.1.10.in-addr.arpa" ∷ [])
    × (zones_of (V4 (record { address = 167840032; prefix = 24 })) ≡ codes "9.1.10.in-addr.arpa" ∷ [])
    × (zones_of (V4 (record { address = 167840032; prefix = 26 })) ≡ codes "9.1.10.in-addr.arpa" ∷ [])
    × (zones_of (V4 (record { address = 167840032; prefix = 32 })) ≡ codes "32.9.1.10.in-addr.arpa" ∷ [])
    × (zones_of (V4 (record { address = 167840032; prefix = 0 })) ≡ codes "in-addr.arpa" ∷ [])
unfolding digits
of_octets = (refl, refl, refl, refl, refl)

-- 2001:db8::/46, ::3/127 and ::/0
pub of_nibbles : (zones_of (V6 (record { address = 42540766411282592856903984951653826560; prefix = 46 })) ≡
    codes "0.0.0.0.8.b.d.0.1.0.0.2.ip6.arpa" ∷ codes "1.0.0.0.8.b.d.0.1.0.0.2.ip6.arpa"
    ∷ codes "2.0.0.0.8.b.d.0.1.0.0.2.ip6.arpa" ∷ codes "3.0.0.0.8.b.d.0.1.0.0.2.ip6.arpa" ∷ [])
    × (zones_of (V6 (record { address = 3; prefix = 127 })) ≡
    codes "2.0.0.0.0.0.0.0.0.0.0.0.0.0.0.0.0.0.0.0.0.0.0.0.0.0.0.0.0.0.0.0.ip6.arpa"
    ∷ codes "3.0.0.0.0.0.0.0.0.0.0.0.0.0.0.0.0.0.0.0.0.0.0.0.0.0.0.0.0.0.0.0.ip6.arpa" ∷ [])
    × (zones_of (V6 (record { address = 0; prefix = 0 })) ≡ codes "ip6.arpa" ∷ [])
unfolding digits
of_nibbles = (refl, refl, refl)

-- half of IPv4 has 128 zones, of which the last is that of 255. On lines there are at most eight
pub many : (zone_count (V4 (record { address = 4294967295; prefix = 1 })) ≡ 128)
    × (zone_at (V4 (record { address = 4294967295; prefix = 1 })) 127 ≡ codes "255.in-addr.arpa")
    × (count_of forms.Lines says.Zones (V4 (record { address = 0; prefix = 21 })) ≡ 8)
    × (count_of forms.Lines says.Zones (V4 (record { address = 0; prefix = 20 })) ≡ 0)
    × (count_of forms.Lines says.Reverse (V4 (record { address = 0; prefix = 20 })) ≡ 1)
unfolding digits
many = (refl, refl, refl, refl, refl)

-- all of IPv4 and of IPv6: the number of addresses needs a bit more than an address
pub all : (value_of says.Hosts (V4 (record { address = 0; prefix = 0 })) 0 ≡ codes "0.0.0.1 - 255.255.255.254")
    × (value_of says.Addresses (V4 (record { address = 0; prefix = 0 })) 0 ≡ codes "4294967296")
    × (value_of says.Addresses (V6 (record { address = 0; prefix = 0 })) 0 ≡ codes
    "340282366920938463463374607431768211456")
unfolding digits
all = (refl, refl, refl)

-- 30 leaves two hosts, 31 has two (RFC 3021) and 32 one, also where they are the last addresses
pub last_ones : (value_of says.Hosts (V4 (record { address = 4294967295; prefix = 30 })) 0 ≡ codes
    "255.255.255.253 - 255.255.255.254")
    × (value_of says.Hosts (V4 (record { address = 4294967295; prefix = 31 })) 0 ≡ codes
    "255.255.255.254 - 255.255.255.255")
    × (value_of says.Hosts (V4 (record { address = 4294967295; prefix = 32 })) 0 ≡ codes
    "255.255.255.255 - 255.255.255.255")
    × (value_of says.Wildcard (V4 (record { address = 4294967295; prefix = 32 })) 0 ≡ codes "0.0.0.0")
unfolding digits
last_ones = (refl, refl, refl, refl)

-- an address of IPv6 alone
pub one_of_ipv6 : (value_of says.Network (V6 (record { address = 1; prefix = 128 })) 0 ≡ codes "::1/128")
    × (value_of says.Addresses (V6 (record { address = 1; prefix = 128 })) 0 ≡ codes "1")
    × (value_of says.Hexadecimal (V6 (record { address = 1; prefix = 128 })) 0 ≡ codes
    "0x00000000000000000000000000000001")
unfolding digits
one_of_ipv6 = (refl, refl, refl)

-- the network is printed without host bits, the address and its numbers with them
pub host_bits_stay : (value_of says.Network (V4 (record { address = 167840032; prefix = 20 })) 0 ≡ codes "10.1.0.0/20")
    × (value_of says.Address (V4 (record { address = 167840032; prefix = 20 })) 0 ≡ codes "10.1.9.32")
    × (value_of says.Integer (V4 (record { address = 167840032; prefix = 20 })) 0 ≡ codes "167840032")
    × (value_of says.Hexadecimal (V4 (record { address = 167840032; prefix = 20 })) 0 ≡ codes "0x0a010920")
unfolding digits
host_bits_stay = (refl, refl, refl, refl)

-- a blank line and a comment say nothing; a line feed ends a line, with one return before it, and any other return is
-- part of the text; and a text may name no network
pub lines_in_turn : lines_said (lines (codes " #x" ++ 10 ∷ codes "\t::1 " ++ 13 ∷ 10 ∷ 10 ∷ codes "::1" ++ 13 ∷ []))
    ≡ network_in (codes "::1") ∷ None ∷ []
unfolding digits v6_of gap_below
lines_in_turn = refl

-- of the 256 bytes, those before a text that begin a comment
pub comments : filter (λ byte. is_skipped (byte ∷ codes "::1")) (range_with_len 0 256) ≡ 35 ∷ []
comments = refl
