-- What follows from the laws, and would not follow from weaker ones: for 192.0.2.1 (RFC 5737, section 3), for the last
-- address, and for texts that are refused.
use Rattle.ipnetwork_witness.proofs.Words.{◌≡◌, ℕ, ◌^◌, ◌-◌, List, Some, None, Option, refl, ap, arith, codes, Ok, Err, none-some, digits, ipv4_octets, ipv6_segments, Parses, IsIpv4Text, IsIpv6Text, IsIpText, ipv4_text, ipv6_text, ip_text, Ipv4Addr, Ipv6Addr, IpAddr, V4, V6, NamesIp, FitsIp, canonical_ip, canonical_v6, v6_of, gap_below, NamesV4, canonical_v4, NamesV6, Reads, v4_computed, v6_computed, Agree, SameV4, SameV6, SameIp}
use Rattle.std.proofs.Common.{Result}
use Rattle.std.specs.Prelude.{◌↔◌}
use Rattle.std.specs.declared.net.ip_addr.IpAddr as std
use Rattle.std.specs.declared.net.ip_addr.IpAddr.TheVariants as std_family
use Rattle.std.specs.declared.net.parser.AddrParseError as std_error
use Rattle.ipnetwork_addr.specs.declared.error.AddrParseError as error
use Rattle.ipnetwork_addr.specs.declared.error.AddrParseError.TheVariants as kinds

abbrev number : Option ℕ → ℕ
number (Some address) = address
number None = 0

-- ---- texts

abbrev V4NamesAgree : Type 0
V4NamesAgree = (text : List ℕ) (ours : ℕ) (theirs : Ipv4Addr) → SameV4 ours theirs
    → NamesV4 text ours ↔ IsIpv4Text text theirs

-- std reads 192.0.2.1 as the address with the same bits
pub std_reads_v4 : V4NamesAgree → (theirs : Ipv4Addr) → SameV4 0xc0000201 theirs
    → IsIpv4Text (codes "192.0.2.1") theirs
unfolding digits
std_reads_v4 law theirs same = (law (codes "192.0.2.1") 0xc0000201 theirs same).0
    ((v4_computed (codes "192.0.2.1") 0xc0000201).1 refl)

-- std does not read 192.0.2.1 as the next address
pub std_reads_no_other_v4 : V4NamesAgree → (theirs : Ipv4Addr) → SameV4 0xc0000202 theirs
    → ¬ (IsIpv4Text (codes "192.0.2.1") theirs)
unfolding digits
std_reads_no_other_v4 law theirs same spelled =
    let named = (law (codes "192.0.2.1") 0xc0000202 theirs same).1 spelled in
    let e : 0xc0000201 ≡ 0xc0000202 = ap number ((v4_computed (codes "192.0.2.1") 0xc0000202).0 named) in
    omega (arith, e)

abbrev V6NamesAgree : Type 0
V6NamesAgree = (text : List ℕ) (ours : ℕ) (theirs : Ipv6Addr) → SameV6 ours theirs
    → NamesV6 text ours ↔ IsIpv6Text text theirs

pub std_reads_v6 : V6NamesAgree → (theirs : Ipv6Addr) → SameV6 0xc0000201 theirs
    → IsIpv6Text (codes "::192.0.2.1") theirs
unfolding digits v6_of gap_below
std_reads_v6 law theirs same = (law (codes "::192.0.2.1") 0xc0000201 theirs same).0
    ((v6_computed (codes "::192.0.2.1") 0xc0000201).1 refl)

abbrev IpNamesAgree : Type 0
IpNamesAgree = (text : List ℕ) (ours : IpAddr) (theirs : std.IpAddr) → SameIp ours theirs
    → NamesIp text ours ↔ IsIpText text theirs

-- std reads a text of either family as the address with the same bits
pub std_reads_either : IpNamesAgree → (four : Ipv4Addr) → SameV4 0xc0000201 four → (six : Ipv6Addr)
    → SameV6 0xc0000201 six
    → IsIpText (codes "192.0.2.1") (std_family.V4 four) × IsIpText (codes "::192.0.2.1") (std_family.V6 six)
unfolding digits v6_of gap_below
std_reads_either law four same_four six same_six = (
  (law (codes "192.0.2.1") (V4 0xc0000201) (std_family.V4 four) same_four).0
      ((v4_computed (codes "192.0.2.1") 0xc0000201).1 refl),
  (law (codes "::192.0.2.1") (V6 0xc0000201) (std_family.V6 six) same_six).0
      ((v6_computed (codes "::192.0.2.1") 0xc0000201).1 refl),
)

-- std accepts no text that names nothing here: an octet with a leading zero, or two gaps
pub std_takes_no_leading_zero
    : ((text : List ℕ) (theirs : Ipv4Addr) → IsIpv4Text text theirs
    → (ours : ℕ) × SameV4 ours theirs × NamesV4 text ours)
    → (theirs : Ipv4Addr) → ¬ (IsIpv4Text (codes "192.0.2.01") theirs)
unfolding digits
std_takes_no_leading_zero law theirs spelled =
    let shared = law (codes "192.0.2.01") theirs spelled in
    none-some shared.0 ((v4_computed (codes "192.0.2.01") shared.0).0 shared.2)

pub std_takes_no_second_gap
    : ((text : List ℕ) (theirs : Ipv6Addr) → IsIpv6Text text theirs
    → (ours : ℕ) × SameV6 ours theirs × NamesV6 text ours)
    → (theirs : Ipv6Addr) → ¬ (IsIpv6Text (codes "1::2::3") theirs)
unfolding digits v6_of gap_below
std_takes_no_second_gap law theirs spelled =
    let shared = law (codes "1::2::3") theirs spelled in
    none-some shared.0 ((v6_computed (codes "1::2::3") shared.0).0 shared.2)

-- std accepts a text that names an address here
pub std_has_the_address
    : ((text : List ℕ) (ours : ℕ) → NamesV4 text ours
    → (theirs : Ipv4Addr) × SameV4 ours theirs × IsIpv4Text text theirs)
    → (theirs : Ipv4Addr) × IsIpv4Text (codes "255.255.255.255") theirs
unfolding digits
std_has_the_address law =
    let shared = law (codes "255.255.255.255") (2 ^ 32 - 1)
    ((v4_computed (codes "255.255.255.255") (2 ^ 32 - 1)).1 refl) in
    (shared.0, shared.2)

-- no text names an address that is too large for its family
pub no_text_of_33_bits : ((text : List ℕ) (address : IpAddr) → NamesIp text address → FitsIp address)
    → (text : List ℕ) → ¬ (NamesIp text (V4 (2 ^ 32)))
no_text_of_33_bits law text named = let fits = law text (V4 (2 ^ 32)) named in omega (arith, fits)

-- ---- printing

pub std_prints_v4
    : ((ours : ℕ) (theirs : Ipv4Addr) → SameV4 ours theirs → canonical_v4 ours ≡ ipv4_text (ipv4_octets theirs))
    → (theirs : Ipv4Addr) → SameV4 (2 ^ 32 - 1) theirs
    → codes "255.255.255.255" ≡ ipv4_text (ipv4_octets theirs)
unfolding digits
std_prints_v4 law theirs same = law (2 ^ 32 - 1) theirs same

pub std_prints_v6
    : ((ours : ℕ) (theirs : Ipv6Addr) → SameV6 ours theirs → canonical_v6 ours ≡ ipv6_text (ipv6_segments theirs))
    → (theirs : Ipv6Addr) → SameV6 0xffffc0000201 theirs
    → codes "::ffff:192.0.2.1" ≡ ipv6_text (ipv6_segments theirs)
unfolding digits
std_prints_v6 law theirs same = law 0xffffc0000201 theirs same

pub std_prints_either
    : ((ours : IpAddr) (theirs : std.IpAddr) → SameIp ours theirs → canonical_ip ours ≡ ip_text theirs)
    → (theirs : Ipv6Addr) → SameV6 1 theirs → codes "::1" ≡ ip_text (std_family.V6 theirs)
unfolding digits
std_prints_either law theirs same = law (V6 1) (std_family.V6 theirs) same

-- ---- readers

abbrev read_by_std : {A : Type 0} → A → Result A std_error.AddrParseError
read_by_std address = Ok address

-- std refuses what is refused here, with whatever error
pub std_refuses_v4
    : ((text : List ℕ) (ours : Result ℕ error.AddrParseError) (theirs : Result Ipv4Addr std_error.AddrParseError)
    → Reads NamesV4 kinds.Ipv4 text ours → Parses IsIpv4Text text theirs → Agree SameV4 ours theirs)
    → (text : List ℕ) (theirs : Ipv4Addr) → Parses IsIpv4Text text (read_by_std theirs)
    → ¬ (Reads NamesV4 kinds.Ipv4 text (Err kinds.Ipv4))
std_refuses_v4 law text theirs parses reads = law text (Err kinds.Ipv4) (Ok theirs) reads parses

-- std reads the same number if both readers return one
pub std_reads_the_same_v6
    : ((text : List ℕ) (ours : Result ℕ error.AddrParseError) (theirs : Result Ipv6Addr std_error.AddrParseError)
    → Reads NamesV6 kinds.Ipv6 text ours → Parses IsIpv6Text text theirs → Agree SameV6 ours theirs)
    → (text : List ℕ) (ours : ℕ) (theirs : Ipv6Addr) → Reads NamesV6 kinds.Ipv6 text (Ok ours)
    → Parses IsIpv6Text text (read_by_std theirs) → SameV6 ours theirs
std_reads_the_same_v6 law text ours theirs = law text (Ok ours) (Ok theirs)
