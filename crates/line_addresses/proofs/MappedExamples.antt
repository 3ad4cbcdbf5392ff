-- The IPv4-mapped addresses whose octets are all 0 or 255: their texts, numbers and IPv4 addresses, by Python's
-- `ipaddress`. Each of these computes.
use Rattle.line_addresses.proofs.Words.{◌≡◌, ℕ, List, [], ◌∷◌, ◌++◌, refl, codes, map, digits, canonical_v6, v6_of, gap_below, unmapped, IpAddr, V4, V6, address_of, before_port, begun_by, behind_word, address_in, addresses_of}

abbrev texts : List (List ℕ)
texts =
    codes "::ffff:0.0.0.0" ∷ codes "::ffff:0.0.0.255" ∷ codes "::ffff:0.0.255.0"
    ∷ codes "::ffff:0.0.255.255" ∷ codes "::ffff:0.255.0.0" ∷ codes "::ffff:0.255.0.255"
    ∷ codes "::ffff:0.255.255.0" ∷ codes "::ffff:0.255.255.255" ∷ codes "::ffff:255.0.0.0"
    ∷ codes "::ffff:255.0.0.255" ∷ codes "::ffff:255.0.255.0" ∷ codes "::ffff:255.0.255.255"
    ∷ codes "::ffff:255.255.0.0" ∷ codes "::ffff:255.255.0.255" ∷ codes "::ffff:255.255.255.0"
    ∷ codes "::ffff:255.255.255.255" ∷ []

abbrev mapped : List ℕ
mapped =
    0xffff00000000 ∷ 0xffff000000ff ∷ 0xffff0000ff00 ∷ 0xffff0000ffff ∷ 0xffff00ff0000 ∷ 0xffff00ff00ff
    ∷ 0xffff00ffff00 ∷ 0xffff00ffffff ∷ 0xffffff000000 ∷ 0xffffff0000ff ∷ 0xffffff00ff00 ∷ 0xffffff00ffff
    ∷ 0xffffffff0000 ∷ 0xffffffff00ff ∷ 0xffffffffff00 ∷ 0xffffffffffff ∷ []

abbrev octets : List ℕ
octets =
    0x00000000 ∷ 0x000000ff ∷ 0x0000ff00 ∷ 0x0000ffff ∷ 0x00ff0000 ∷ 0x00ff00ff ∷ 0x00ffff00 ∷ 0x00ffffff
    ∷ 0xff000000 ∷ 0xff0000ff ∷ 0xff00ff00 ∷ 0xff00ffff ∷ 0xffff0000 ∷ 0xffff00ff ∷ 0xffffff00 ∷ 0xffffffff ∷ []

pub are_printed : map canonical_v6 mapped ≡ texts
unfolding digits
are_printed = refl

pub stand_for : map (λ number. unmapped (V6 number)) mapped ≡ map V4 octets
stand_for = refl

-- the addresses of a line with this text
abbrev in_a_line : List ℕ → List IpAddr
in_a_line text = map (λ one. one.address) (addresses_of (codes "from " ++ text ++ codes ", seen"))

pub are_found : map in_a_line texts ≡ map (λ number. V6 number ∷ []) mapped
unfolding address_in behind_word begun_by before_port address_of digits v6_of gap_below
are_found = refl

-- the same in hex, in either case
pub are_found_in_hex : map in_a_line (codes "::ffff:0:0" ∷ codes "::FFFF:0:ff" ∷ codes "::ffff:ff00:FF"
    ∷ codes "0:0:0:0:0:ffff:ffff:ffff" ∷ [])
    ≡ (V6 0xffff00000000 ∷ []) ∷ (V6 0xffff000000ff ∷ []) ∷ (V6 0xffffff0000ff ∷ []) ∷ (V6 0xffffffffffff ∷ []) ∷ []
unfolding address_in behind_word begun_by before_port address_of digits v6_of gap_below
are_found_in_hex = refl
