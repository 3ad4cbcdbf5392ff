-- Equal addresses of this library and of std, and their texts in both.
use Rattle.ipnetwork_witness.proofs.Words.{◌≡◌, ◌↔◌, ℕ, ◌^◌, ◌<◌, List, refl, sym, ap, ◌∙◌, subst, Ipv4Addr, Ipv6Addr, bytes_high_first, number_from_digits, ipv4_octets, ipv6_segments, IsIpv4OfBits, IsIpv6OfBits, IsDotted, IsColonHex, IsIpv4Text, IsIpv6Text, octets_of, segments_of, NamesV4, NamesV6, SameV4, SameV6, digits_in-bytes}
use Rattle.std.specs.Net.Addr as std_addresses
use Rattle.ipnetwork_witness.proofs.Bridge.{same_texts, name_fits, number_fits, digits_back}
use Rattle.ipnetwork_witness.proofs.Digits.{segments-digits_in}
use Rattle.ipnetwork_witness.proofs.Dotted.{v4_bridge}
use Rattle.ipnetwork_witness.proofs.ColonHex.{v6_bridge}

-- ---- the bits of an address of std

pub octets_are : (ours : ℕ) (theirs : Ipv4Addr) → IsIpv4OfBits theirs ours → ipv4_octets theirs ≡ octets_of ours
unfolding IsIpv4OfBits
octets_are ours theirs h = h ∙ digits_in-bytes 4 ours

pub same_octets : (ours : ℕ) (theirs : Ipv4Addr) → ipv4_octets theirs ≡ octets_of ours → IsIpv4OfBits theirs ours
unfolding IsIpv4OfBits
same_octets ours theirs h = h ∙ sym (digits_in-bytes 4 ours)

segments_of_bytes : (n : ℕ) → std_addresses.segments_of (bytes_high_first 16 n) ≡ segments_of n
segments_of_bytes n = ap std_addresses.segments_of (digits_in-bytes 16 n) ∙ segments-digits_in 8 n

pub segments_are : (ours : ℕ) (theirs : Ipv6Addr) → IsIpv6OfBits theirs ours → ipv6_segments theirs ≡ segments_of ours
unfolding IsIpv6OfBits
segments_are ours theirs h = h ∙ segments_of_bytes ours

pub same_segments : (ours : ℕ) (theirs : Ipv6Addr) → ipv6_segments theirs ≡ segments_of ours → IsIpv6OfBits theirs ours
unfolding IsIpv6OfBits
same_segments ours theirs h = h ∙ sym (segments_of_bytes ours)

-- ---- the texts of an address

pub v4_texts : (text : List ℕ) (ours : ℕ) (theirs : Ipv4Addr) → SameV4 ours theirs
    → NamesV4 text ours ↔ IsIpv4Text text theirs
v4_texts text ours theirs same =
    subst (λ octets. NamesV4 text ours ↔ IsDotted text octets) (sym (octets_are ours theirs same.1))
    (same_texts 256 4 NamesV4 IsDotted v4_bridge text ours same.0)

pub v6_texts : (text : List ℕ) (ours : ℕ) (theirs : Ipv6Addr) → SameV6 ours theirs
    → NamesV6 text ours ↔ IsIpv6Text text theirs
v6_texts text ours theirs same =
    subst (λ groups. NamesV6 text ours ↔ IsColonHex text groups) (sym (segments_are ours theirs same.1))
    (same_texts (2 ^ 16) 8 NamesV6 IsColonHex v6_bridge text ours same.0)

-- ---- each address has its counterpart

pub v4_ours : (text : List ℕ) (ours : ℕ) → NamesV4 text ours → (theirs : Ipv4Addr) × SameV4 ours theirs
    × IsIpv4Text text theirs
v4_ours text ours h =
    let theirs : Ipv4Addr = record { octets = octets_of ours } in
    let same : SameV4 ours theirs =
    (name_fits 256 4 NamesV4 IsDotted v4_bridge text ours h, same_octets ours theirs refl) in
    (theirs, same, (v4_texts text ours theirs same).0 h)

pub v4_theirs : (text : List ℕ) (theirs : Ipv4Addr) → IsIpv4Text text theirs → (ours : ℕ) × SameV4 ours theirs
    × NamesV4 text ours
v4_theirs text theirs h =
    let ours : ℕ = number_from_digits 256 (ipv4_octets theirs) in
    let fits : ours < 2 ^ 32 = number_fits 256 4 NamesV4 IsDotted v4_bridge text (ipv4_octets theirs) h in
    let digits : octets_of ours ≡ ipv4_octets theirs =
    digits_back 256 4 NamesV4 IsDotted v4_bridge text (ipv4_octets theirs) h in
    (ours, (fits, same_octets ours theirs (sym digits)), v4_bridge.to_named text (ipv4_octets theirs) h)

pub v6_ours : (text : List ℕ) (ours : ℕ) → NamesV6 text ours → (theirs : Ipv6Addr) × SameV6 ours theirs
    × IsIpv6Text text theirs
v6_ours text ours h =
    let theirs : Ipv6Addr = record { segments = segments_of ours } in
    let same : SameV6 ours theirs =
    (name_fits (2 ^ 16) 8 NamesV6 IsColonHex v6_bridge text ours h, same_segments ours theirs refl) in
    (theirs, same, (v6_texts text ours theirs same).0 h)

pub v6_theirs : (text : List ℕ) (theirs : Ipv6Addr) → IsIpv6Text text theirs → (ours : ℕ) × SameV6 ours theirs
    × NamesV6 text ours
v6_theirs text theirs h =
    let ours : ℕ = number_from_digits (2 ^ 16) (ipv6_segments theirs) in
    let fits : ours < 2 ^ 128 = number_fits (2 ^ 16) 8 NamesV6 IsColonHex v6_bridge text (ipv6_segments theirs) h in
    let digits : segments_of ours ≡ ipv6_segments theirs =
    digits_back (2 ^ 16) 8 NamesV6 IsColonHex v6_bridge text (ipv6_segments theirs) h in
    (ours, (fits, same_segments ours theirs (sym digits)), v6_bridge.to_named text (ipv6_segments theirs) h)
