-- Which texts look like an entry, at values at which a misreading of the definitions would show. Each of these computes.
use Rattle.lists.proofs.Words.{◌≡◌, ◌∷◌, ◌++◌, [], ℕ, List, true, false, refl, codes, map, filter, range_with_len, has_gap, is_address_byte, is_entry_byte, is_separator, looks_like_entry}

abbrev bytes : List ℕ
bytes = range_with_len 0 256

-- the bytes of an address are the digits, `.`, `:` and the hex letters of either case
pub bytes_of_addresses : filter is_address_byte bytes ≡ codes ".0123456789:ABCDEFabcdef"
bytes_of_addresses = refl

-- each byte as a number among four, before and after a gap, and after a `/`
pub numbers : filter (λ byte. looks_like_entry (codes "1.1.1." ++ byte ∷ [])) bytes ≡ codes "0123456789"
numbers = refl

pub gaps : filter (λ byte. looks_like_entry (codes "::" ++ byte ∷ codes "1")) (range_with_len 44 16)
    ≡ codes ",./0123456789:;"
gaps = refl

pub behind_a_slash : filter (λ byte. looks_like_entry (codes "::/" ++ byte ∷ [])) bytes ≡ bytes
behind_a_slash = refl

pub a_gap : map has_gap (codes "::" ∷ codes "a::" ∷ codes ":a:" ∷ codes ":" ∷ [] ∷ [])
    ≡ true ∷ true ∷ false ∷ false ∷ false ∷ []
a_gap = refl

pub entries : map looks_like_entry (codes "300.1.1.1" ∷ codes "1.1.1.1/x" ∷ codes " ::/129 " ∷ codes "1.2.3.9 - 1.2.3.4" ∷ [])
    ≡ true ∷ true ∷ true ∷ true ∷ []
entries = refl

pub others : map looks_like_entry (codes "1.2.3" ∷ codes "1.2.3.4.5" ∷ codes "1..2.3" ∷ codes "12:34:56" ∷ codes "x - ::" ∷ [])
    ≡ false ∷ false ∷ false ∷ false ∷ false ∷ []
others = refl

-- each byte as one between entries: all but visible ASCII, and `,` (44) and `;` (59)
abbrev unseen : List ℕ
unseen = range_with_len 0 33

abbrev beyond : List ℕ
beyond = range_with_len 127 129

pub separators : filter is_separator bytes ≡ unseen ++ codes ",;" ++ beyond
separators = refl

-- each byte after an address, before it, and between it and a number
pub at_the_end : filter (λ byte. looks_like_entry (codes "1.1.1.1" ++ byte ∷ [])) bytes
    ≡ unseen ++ codes ",/0123456789;" ++ beyond
at_the_end = refl

pub in_front : filter (λ byte. looks_like_entry (byte ∷ codes "1.1.1.1")) bytes
    ≡ unseen ++ codes ",0123456789;" ++ beyond
in_front = refl

pub between : filter (λ byte. looks_like_entry (codes "1.1.1.1" ++ byte ∷ codes "1")) bytes
    ≡ unseen ++ codes ",/0123456789;" ++ beyond
between = refl

-- each byte after the first separator: those of addresses, of prefix lengths and of ranges, and separators
pub bytes_of_entries : filter is_entry_byte bytes ≡ unseen ++ codes ",-./0123456789:;ABCDEFabcdef" ++ beyond
bytes_of_entries = refl

pub in_the_rest : filter (λ byte. looks_like_entry (codes "1.1.1.1 1" ++ byte ∷ codes "1")) bytes
    ≡ unseen ++ codes ",-./0123456789:;ABCDEFabcdef" ++ beyond
in_the_rest = refl

-- U+00A0 (194, 160) and U+200B (226, 128, 139) at the end, and a byte order mark (239, 187, 191) in front
pub of_two_bytes : looks_like_entry (codes "::1" ++ 194 ∷ 160 ∷ []) ≡ true
of_two_bytes = refl

pub of_three_bytes : looks_like_entry (codes "::1" ++ 226 ∷ 128 ∷ 139 ∷ []) ≡ true
of_three_bytes = refl

pub a_byte_order_mark : looks_like_entry (239 ∷ 187 ∷ 191 ∷ codes "1.1.1.0/24") ≡ true
a_byte_order_mark = refl

pub more_than_one : map looks_like_entry
    (codes "1.2.3.4,5.6.7.8" ∷ codes "1.2.3.0 255.255.255.0" ∷ codes "1.2.3.0 /24" ∷ codes "::1; ::2-::3" ∷ [])
    ≡ true ∷ true ∷ true ∷ true ∷ []
more_than_one = refl

pub sentences : map looks_like_entry
    (codes "1.2.3.4 is down" ∷ codes "at 1.2.3.4" ∷ codes "1.2.3, 1.2.3.4" ∷ codes "2026-12-01 10:00:00" ∷ codes "2026-12-01T10:00:00Z" ∷ [])
    ≡ false ∷ false ∷ false ∷ false ∷ false ∷ []
sentences = refl

-- IPv6 that is spelled in full has eight groups, or six and four numbers
pub in_full : map looks_like_entry
    (codes "1:2:3:4:5:6:7:8/129" ∷ codes "1:2:3:4:5:6:7:fffff" ∷ codes "1:2:3:4:5:6:1.2.3.4/129" ∷ codes "1:2:3:4:5:6:7:8/x-::1" ∷ [])
    ≡ true ∷ true ∷ true ∷ true ∷ []
in_full = refl

pub not_in_full : map looks_like_entry
    (codes "1:2:3:4:5:6:7/64" ∷ codes "1:2:3:4:5:6:7:8:9" ∷ codes "1:2:3:4:5:6:1.2.3" ∷ codes "1:2:3:4:5:6:7:x" ∷ codes "00:1b:44:11:3a:b7" ∷ [])
    ≡ false ∷ false ∷ false ∷ false ∷ false ∷ []
not_in_full = refl
