-- Texts and values at which a misreading of the definitions would show. All of these are proved by computing.
use Rattle.ipnetwork_addr.proofs.Words.{◌≡◌, ℕ, ◌^◌, ◌-◌, ◌<◌, ◌≤◌, true, false, List, [], ◌∷◌, length, None, Some, refl, ap, arith, lit≤, codes, Ok, Err, digits, le_bytes, number_from_digits, Less, Equal, Greater, AddrParseError, Ipv4, Ipv6, Ip, V4, V6, octets_of, octets_of_v6, segments_of, FitsIp, IsAddrBefore, IsAddrAtMost, ip_cmp, ip_writes, canonical_ip, unmapped, ip_of, addr_fault_text, Reads, answer_from, number_of_segments, IsAddressByte, Digit, UpperHex, LowerHex, Dot, Colon, colon_first, NamesV4, v4_of, IsMapped, NamesV6, canonical_v6, v6_of, gap_below}
use Rattle.std.specs.Prelude.{map}

-- ---- digits of numbers

pub octets_by_position : octets_of 0xc0000201 ≡ 192 ∷ 0 ∷ 2 ∷ 1 ∷ []
octets_by_position = refl

pub greatest_v4 : octets_of (2 ^ 32 - 1) ≡ 255 ∷ 255 ∷ 255 ∷ 255 ∷ []
greatest_v4 = refl

pub sixteen_octets : octets_of_v6 0x000102030405060708090a0b0c0d0eff
    ≡ 0 ∷ 1 ∷ 2 ∷ 3 ∷ 4 ∷ 5 ∷ 6 ∷ 7 ∷ 8 ∷ 9 ∷ 10 ∷ 11 ∷ 12 ∷ 13 ∷ 14 ∷ 255 ∷ []
sixteen_octets = refl

pub octet_in_front : octets_of_v6 (2 ^ 120)
    ≡ 1 ∷ 0 ∷ 0 ∷ 0 ∷ 0 ∷ 0 ∷ 0 ∷ 0 ∷ 0 ∷ 0 ∷ 0 ∷ 0 ∷ 0 ∷ 0 ∷ 0 ∷ 0 ∷ []
octet_in_front = refl

pub eight_groups : segments_of 0x20010db800000001000200030004ffff
    ≡ 0x2001 ∷ 0xdb8 ∷ 0 ∷ 1 ∷ 2 ∷ 3 ∷ 4 ∷ 0xffff ∷ []
eight_groups = refl

pub group_in_front : segments_of (2 ^ 112) ≡ 1 ∷ 0 ∷ 0 ∷ 0 ∷ 0 ∷ 0 ∷ 0 ∷ 0 ∷ []
group_in_front = refl

pub eight_segments : number_of_segments (0x2001 ∷ 0xdb8 ∷ 0 ∷ 1 ∷ 2 ∷ 3 ∷ 4 ∷ 0xffff ∷ [])
    ≡ 0x20010db800000001000200030004ffff
eight_segments = refl

-- ---- either family

pub v4_fits : FitsIp (V4 0xc0000201)
v4_fits = lit≤ tt

pub greatest_v4_fits : FitsIp (V4 0xffffffff)
greatest_v4_fits = lit≤ tt

pub v4_of_33_bits : ¬ (FitsIp (V4 (2 ^ 32)))
v4_of_33_bits h = omega (arith, h)

pub v6_fits : FitsIp (V6 (2 ^ 32))
v6_fits = lit≤ tt

pub greatest_v6_fits : FitsIp (V6 0xffffffffffffffffffffffffffffffff)
greatest_v6_fits = lit≤ tt

pub v6_of_129_bits : ¬ (FitsIp (V6 (2 ^ 128)))
v6_of_129_bits h = omega (arith, h)

pub lower_v4_before : IsAddrBefore (V4 1) (V4 2)
lower_v4_before = lit≤ tt

pub v4_not_before_itself : ¬ (IsAddrBefore (V4 2) (V4 2))
v4_not_before_itself h = omega (arith, h)

pub v4_before_v6 : IsAddrBefore (V4 0xffffffff) (V6 0)
v4_before_v6 = tt

pub v6_not_before_v4 : ¬ (IsAddrBefore (V6 0) (V4 0xffffffff))
v6_not_before_v4 h = h

pub lower_v6_before : IsAddrBefore (V6 1) (V6 2)
lower_v6_before = lit≤ tt

pub higher_v6_not_before : ¬ (IsAddrBefore (V6 2) (V6 1))
higher_v6_not_before h = omega (arith, h)

pub v4_at_most_itself : IsAddrAtMost (V4 2) (V4 2)
v4_at_most_itself = lit≤ tt

pub v4_at_most_v6 : IsAddrAtMost (V4 2) (V6 1)
v4_at_most_v6 = tt

pub v6_not_at_most_v4 : ¬ (IsAddrAtMost (V6 1) (V4 2))
v6_not_at_most_v4 h = h

pub higher_v6_not_at_most : ¬ (IsAddrAtMost (V6 2) (V6 1))
higher_v6_not_at_most h = omega (arith, h)

pub compared : ip_cmp (V4 1) (V4 2) ∷ ip_cmp (V4 2) (V6 1) ∷ ip_cmp (V6 1) (V4 2)
    ∷ ip_cmp (V6 2) (V6 1) ∷ ip_cmp (V6 2) (V6 2) ∷ []
    ≡ Less ∷ Less ∷ Greater ∷ Greater ∷ Equal ∷ []
compared = refl

pub family_and_number : ip_writes (V4 1)
    ≡ (0 ∷ 0 ∷ 0 ∷ 0 ∷ 0 ∷ 0 ∷ 0 ∷ 0 ∷ []) ∷ (1 ∷ 0 ∷ 0 ∷ 0 ∷ []) ∷ []
unfolding le_bytes
family_and_number = refl

pub other_family_and_number : ip_writes (V6 1)
    ≡ (1 ∷ 0 ∷ 0 ∷ 0 ∷ 0 ∷ 0 ∷ 0 ∷ 0 ∷ [])
    ∷ (1 ∷ 0 ∷ 0 ∷ 0 ∷ 0 ∷ 0 ∷ 0 ∷ 0 ∷ 0 ∷ 0 ∷ 0 ∷ 0 ∷ 0 ∷ 0 ∷ 0 ∷ 0 ∷ []) ∷ []
unfolding le_bytes
other_family_and_number = refl

pub either_texts : map ip_of (codes "1.2.3.4" ∷ codes "::1.2.3.4" ∷ codes "1.2.3" ∷ [])
    ≡ Some (V4 0x01020304) ∷ Some (V6 0x01020304) ∷ None ∷ []
unfolding digits v6_of gap_below
either_texts = refl

pub either_printed : map canonical_ip (V4 1 ∷ V6 1 ∷ []) ≡ codes "0.0.0.1" ∷ codes "::1" ∷ []
unfolding digits
either_printed = refl

-- ---- what a reader returns

abbrev kind : AddrParseError → ℕ
kind Ipv4 = 4
kind Ipv6 = 6
kind Ip = 0

pub v4_fault_alone : ¬ (Reads NamesV4 Ipv4 (codes "x") (Err Ipv6))
v4_fault_alone h = let e : 6 ≡ 4 = ap kind h.0 in omega (arith, e)

pub v6_fault_alone : ¬ (Reads NamesV6 Ipv6 (codes "x") (Err Ip))
v6_fault_alone h = let e : 0 ≡ 6 = ap kind h.0 in omega (arith, e)

pub answers : answer_from {A = ℕ} Ipv6 (Some 1) ∷ answer_from Ipv6 None ∷ [] ≡ Ok 1 ∷ Err Ipv6 ∷ []
answers = refl

pub faults : map addr_fault_text (Ipv4 ∷ Ipv6 ∷ Ip ∷ [])
    ≡ codes "invalid IPv4 address syntax" ∷ codes "invalid IPv6 address syntax"
    ∷ codes "invalid IP address syntax" ∷ []
faults = refl

-- ---- bytes of addresses

-- an address byte is a dot, a digit, a colon or a hex letter
only : {P : Type 0} (byte : ℕ) → IsAddressByte byte → (byte ≡ 46 → P) → (48 ≤ byte → byte ≤ 58 → P)
    → (65 ≤ byte → byte ≤ 70 → P) → (97 ≤ byte → byte ≤ 102 → P) → P
only byte (Digit low high) dot digit upper lower = digit low (omega arith)
only byte (UpperHex low high) dot digit upper lower = upper low high
only byte (LowerHex low high) dot digit upper lower = lower low high
only byte (Dot is) dot digit upper lower = dot is
only byte (Colon is) dot digit upper lower = digit (omega arith) (omega arith)

pub none_before_the_dot : (byte : ℕ) → byte < 46 → ¬ (IsAddressByte byte)
none_before_the_dot byte l h = only byte h (λ is. omega arith) (λ low high. omega arith) (λ low high. omega arith)
    (λ low high. omega arith)

pub slash_is_none : ¬ (IsAddressByte 47)
slash_is_none h = only 47 h (λ is. omega arith) (λ low high. omega arith) (λ low high. omega arith)
    (λ low high. omega arith)

pub none_before_the_capitals : (byte : ℕ) → 58 < byte → byte < 65 → ¬ (IsAddressByte byte)
none_before_the_capitals byte l m h =
    only byte h (λ is. omega arith) (λ low high. omega arith) (λ low high. omega arith) (λ low high. omega arith)

pub none_from_capital_g : (byte : ℕ) → 70 < byte → byte < 97 → ¬ (IsAddressByte byte)
none_from_capital_g byte l m h = only byte h (λ is. omega arith) (λ low high. omega arith) (λ low high. omega arith)
    (λ low high. omega arith)

pub none_from_letter_g : (byte : ℕ) → 102 < byte → ¬ (IsAddressByte byte)
none_from_letter_g byte l h = only byte h (λ is. omega arith) (λ low high. omega arith) (λ low high. omega arith)
    (λ low high. omega arith)

-- ---- the first dot or colon of a text

pub first_marks : map colon_first (codes "1:2.3" ∷ codes "1.2:3" ∷ codes "12" ∷ [])
    ≡ true ∷ false ∷ false ∷ []
first_marks = refl

-- ---- IPv4 texts

pub v4_texts : map v4_of (codes "1.2.3.4" ∷ codes "255.255.255.255" ∷ [])
    ≡ Some 16909060 ∷ Some 4294967295 ∷ []
unfolding digits
v4_texts = refl

-- a leading zero, an octet of 256, three octets, a trailing blank
pub no_v4_texts : map v4_of
    (codes "01.2.3.4" ∷ codes "256.0.0.0" ∷ codes "1.2.3" ∷ codes "1.2.3.4 " ∷ [])
    ≡ None ∷ None ∷ None ∷ None ∷ []
unfolding digits
no_v4_texts = refl

-- ---- IPv6 texts

pub gap_for_one_group : v6_of (codes "1:2:3:4:5:6:7::")
    ≡ Some (number_from_digits (2 ^ 16) (1 ∷ 2 ∷ 3 ∷ 4 ∷ 5 ∷ 6 ∷ 7 ∷ 0 ∷ []))
unfolding digits v6_of gap_below
gap_for_one_group = refl

pub gap_alone : v6_of (codes "::") ≡ Some 0
unfolding digits v6_of gap_below
gap_alone = refl

pub dotted_texts : map v6_of (codes "::1.2.3.4" ∷ codes "0:0:0:0:0:0:1.2.3.4" ∷ [])
    ≡ Some 16909060 ∷ Some 16909060 ∷ []
unfolding digits v6_of gap_below
dotted_texts = refl

-- a gap in addition to eight groups, two gaps, three colons, five digits
pub no_v6_texts : map v6_of
    (codes "1::2:3:4:5:6:7:8" ∷ codes "1::2::3" ∷ codes ":::1" ∷ codes "12345::" ∷ [])
    ≡ None ∷ None ∷ None ∷ None ∷ []
unfolding digits v6_of gap_below
no_v6_texts = refl

-- an IPv4 text before a gap, and one after three colons
pub no_dotted_texts : map v6_of (codes "1.2.3.4::" ∷ codes ":::1.2.3.4" ∷ []) ≡ None ∷ None ∷ []
unfolding digits v6_of gap_below
no_dotted_texts = refl

-- ---- canonical texts of IPv6

pub longest_text : length (canonical_v6 (2 ^ 128 - 1)) ≡ 39
unfolding digits
longest_text = refl

-- the canonical text of these groups
abbrev printed : List ℕ → List ℕ
printed groups = canonical_v6 (number_from_digits (2 ^ 16) groups)

pub lower_case_hex : printed (0xabcd ∷ 0xef ∷ 0x10 ∷ 0x100 ∷ 0x1000 ∷ 6 ∷ 7 ∷ 8 ∷ [])
    ≡ codes "abcd:ef:10:100:1000:6:7:8"
unfolding digits
lower_case_hex = refl

-- of equal runs the first is left out, otherwise the longest, and never a single group
pub zeros_left_out :
    map printed (
    (0 ∷ 0 ∷ 1 ∷ 0 ∷ 0 ∷ 1 ∷ 0 ∷ 0 ∷ [])
    ∷ (1 ∷ 0 ∷ 0 ∷ 1 ∷ 0 ∷ 0 ∷ 0 ∷ 0 ∷ [])
    ∷ (8193 ∷ 3512 ∷ 0 ∷ 1 ∷ 1 ∷ 1 ∷ 1 ∷ 1 ∷ []) ∷ [])
    ≡ codes "::1:0:0:1:0:0" ∷ codes "1:0:0:1::" ∷ codes "2001:db8:0:1:1:1:1:1" ∷ []
unfolding digits
zeros_left_out = refl

pub mapped_address : printed (0 ∷ 0 ∷ 0 ∷ 0 ∷ 0 ∷ 65535 ∷ 258 ∷ 772 ∷ []) ≡ codes "::ffff:1.2.3.4"
unfolding digits
mapped_address = refl

-- the first and last mapped addresses, and the addresses next to them
pub mapped_ends : IsMapped 0xffff_0000_0000 × IsMapped 0xffff_ffff_ffff
mapped_ends = (refl, refl)

pub outside_mapped : ¬ (IsMapped 0xfffe_ffff_ffff) × ¬ (IsMapped 0x1_0000_0000_0000)
outside_mapped =
    (λ h. let e : 0xfffe ≡ 0xffff = h in omega (arith, e), λ h. let e : 0x1_0000 ≡ 0xffff = h in omega (arith, e))

pub printed_at_the_ends :
    map canonical_v6 (0xfffe_ffff_ffff ∷ 0xffff_0000_0000 ∷ 0xffff_ffff_ffff ∷ 0x1_0000_0000_0000 ∷ [])
    ≡ codes "::fffe:ffff:ffff" ∷ codes "::ffff:0.0.0.0" ∷ codes "::ffff:255.255.255.255" ∷ codes "::1:0:0:0" ∷ []
unfolding digits
printed_at_the_ends = refl

-- ---- the IPv4 addresses of IPv4-mapped addresses

pub stand_for : map unmapped (V6 0xffff0a010101 ∷ V6 0x0a010101 ∷ V6 0x1ffff0a010101 ∷ V4 1 ∷ [])
    ≡ V4 0x0a010101 ∷ V6 0x0a010101 ∷ V6 0x1ffff0a010101 ∷ V4 1 ∷ []
stand_for = refl

-- both ends of ::ffff:0:0/96, which are ::ffff:0.0.0.0 and ::ffff:255.255.255.255, and the addresses next to them,
-- ::fffe:255.255.255.255 and ::1:0:0:0
pub first_and_last_mapped :
    map unmapped (V6 0xffff00000000 ∷ V6 0xffffffffffff ∷ V6 0xfffeffffffff ∷ V6 0x1000000000000 ∷ [])
    ≡ V4 0 ∷ V4 0xffffffff ∷ V6 0xfffeffffffff ∷ V6 0x1000000000000 ∷ []
first_and_last_mapped = refl
