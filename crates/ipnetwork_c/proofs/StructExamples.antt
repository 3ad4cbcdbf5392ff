-- C structs that would expose a misreading of the definitions.
use Rattle.ipnetwork_c.proofs.Words.{◌≡◌, ℕ, List, [], ◌∷◌, ◌++◌, get_or, refl, sym, ap, subst, ◌∙◌, lit<, lit≤, arith, Some, None, replicate, none-some, same_Some, Network, IpNetwork, V4, V6, IpSubnet, ip_high, Ipv4InC, Ipv6InC, IpInC, AddressInC, ok, prefix, no_family, HoldsV4, HoldsV6, Writes, On, Nothing, IsFlag, ip_fits, BlankV4, BlankV6, HoldsIp, ip_in, IpPrefixFits, HoldsAddress, held_address, NoIpNetwork, StandsForIp, OfNetwork, OfBoth, TellsAddress, TellsOfBoth, WritesUnmapped, NoFamily, NoPrefix}
use Rattle.ipnetwork_addr.specs.declared.ip.IpAddr.TheVariants as addresses

-- ---- networks

abbrev ten : Network
ten = record { address = 0x0a000000; prefix = 8 }

abbrev ten_in_c : Ipv4InC
ten_in_c = record { address = 10 ∷ 0 ∷ 0 ∷ 0 ∷ []; prefix = 8 }

abbrev blank : Ipv4InC
blank = record { address = replicate 4 0; prefix = 0 }

abbrev blank_six : Ipv6InC
blank_six = record { address = replicate 16 0; prefix = 0 }

abbrev either : ℕ → Ipv4InC → Ipv6InC → IpInC
either family four six = record { family = family; v4 = four; v6 = six }

pub a_network_is_held : HoldsIp (either 4 ten_in_c blank_six) (V4 ten)
a_network_is_held = (refl, (refl, refl), (refl, refl))

pub no_ipv4_network_is_held_as_ipv6 : ¬ (HoldsIp (either 6 ten_in_c blank_six) (V4 ten))
no_ipv4_network_is_held_as_ipv6 h = let family = h.0 in omega (arith, family)

pub no_prefix_length_stands_beside_an_ipv4_network : ¬ (HoldsIp
    (either 4 ten_in_c (record { address = replicate 16 0; prefix = 1 })) (V4 ten))
no_prefix_length_stands_beside_an_ipv4_network h = let beside = h.2.1 in omega (arith, beside)

pub no_octet_stands_beside_an_ipv4_network : ¬ (HoldsIp
    (either 4 ten_in_c (record { address = replicate 15 0 ++ 1 ∷ []; prefix = 0 })) (V4 ten))
no_octet_stands_beside_an_ipv4_network h = let beside : 1 ≡ 0 = ap (λ (l : List ℕ). get_or l 15 0) h.2.0 in
    omega (arith, beside)

pub no_octet_stands_beside_an_ipv6_network : ¬ (HoldsIp (either 6 (record { address = 0 ∷ 0 ∷ 0 ∷ 1 ∷ []; prefix = 0 })
    blank_six) (V6 (record { address = 0; prefix = 0 })))
no_octet_stands_beside_an_ipv6_network h = let beside : 1 ≡ 0 = ap (λ (l : List ℕ). get_or l 3 0) h.1.0 in
    omega (arith, beside)

pub no_prefix_length_stands_beside_an_ipv6_network : ¬ (HoldsIp
    (either 6 (record { address = replicate 4 0; prefix = 1 }) blank_six) (V6 (record { address = 0; prefix = 0 })))
no_prefix_length_stands_beside_an_ipv6_network h = let beside = h.1.1 in omega (arith, beside)

pub zeros_are_blank : BlankV4 blank × BlankV6 blank_six
zeros_are_blank = ((refl, refl), (refl, refl))

pub a_prefix_length_is_not_blank : ¬ (BlankV4 (record { address = replicate 4 0; prefix = 32 }))
a_prefix_length_is_not_blank h = let length = h.1 in omega (arith, length)

pub a_last_octet_is_not_blank : ¬ (BlankV6 (record { address = replicate 15 0 ++ 1 ∷ []; prefix = 0 }))
a_last_octet_is_not_blank h = let last : 1 ≡ 0 = ap (λ (l : List ℕ). get_or l 15 0) h.0 in omega (arith, last)

-- FF01:0:0:0:0:0:0:101, an example of RFC 4291, section 2.2
pub an_ipv6_network_is_held : HoldsV6
    (record { address = 0xff ∷ 0x01 ∷ replicate 12 0 ++ 0x01 ∷ 0x01 ∷ []; prefix = 128 })
    (record { address = 0xff010000000000000000000000000101; prefix = 128 })
an_ipv6_network_is_held = (refl, refl)

pub ipv6_octets_turned_round_are_not_held : ¬ (HoldsV6 (record { address = 1 ∷ replicate 15 0; prefix = 128 })
    (record { address = 1; prefix = 128 }))
ipv6_octets_turned_round_are_not_held h = let first : 1 ≡ 0 = ap (λ (l : List ℕ). get_or l 0 0) h.0 in
    omega (arith, first)

pub another_prefix_length_is_not_held : ¬ (HoldsV4 ten_in_c (record { address = 0x0a000000; prefix = 9 }))
another_prefix_length_is_not_held h = let length = h.1 in omega (arith, length)

pub octets_turned_round_are_not_held : ¬ (HoldsV4 (record { address = 0 ∷ 0 ∷ 0 ∷ 10 ∷ []; prefix = 8 }) ten)
octets_turned_round_are_not_held h = let first : 0 ≡ 10 = ap (λ (l : List ℕ). get_or l 0 0) h.0 in omega (arith, first)

pub the_other_family_is_not_looked_at : ip_in (either 4 ten_in_c (record { address = replicate 16 7; prefix = 200 }))
    ≡ Some (V4 ten)
the_other_family_is_not_looked_at = refl

pub family_six_is_ipv6 : ip_in (either 6 ten_in_c blank_six) ≡ Some (V6 (record { address = 0; prefix = 0 }))
family_six_is_ipv6 = refl

pub a_prefix_length_of_33_is_none_of_ipv4 : ¬ (IpPrefixFits (V4 (record { address = 0; prefix = 33 })))
a_prefix_length_of_33_is_none_of_ipv4 h = omega (arith, h)

pub a_prefix_length_of_129_is_none_of_ipv6 : ¬ (IpPrefixFits (V6 (record { address = 0; prefix = 129 })))
a_prefix_length_of_129_is_none_of_ipv6 h = omega (arith, h)

pub both_full_widths_fit : IpPrefixFits (V4 (record { address = 0; prefix = 32 }))
    × IpPrefixFits (V6 (record { address = 0; prefix = 128 }))
both_full_widths_fit = (omega arith, omega arith)

-- a struct of neither family is refused for its family, whatever its prefix lengths are
pub no_family_comes_first : ¬ (NoIpNetwork (either 5 (record { address = replicate 4 0; prefix = 33 }) blank_six)
    prefix)
no_family_comes_first (NoFamily told is) = omega (arith, is)
no_family_comes_first (NoPrefix n told past is) = cc

pub a_prefix_length_past_the_width_is_no_missing_family : ¬ (NoIpNetwork
    (either 4 (record { address = replicate 4 0; prefix = 33 }) blank_six) no_family)
a_prefix_length_past_the_width_is_no_missing_family (NoFamily told is) = cc
a_prefix_length_past_the_width_is_no_missing_family (NoPrefix n told past is) = omega (arith, is)

pub a_network_is_not_refused : (code : ℕ) → ¬ (NoIpNetwork (either 4 ten_in_c blank_six) code)
a_network_is_not_refused code (NoFamily told is) = cc
a_network_is_not_refused code (NoPrefix n told past is) = past (fits n told)
  where
    fits : (n : IpNetwork) → Some (V4 ten) ≡ Some n → IpPrefixFits n
    fits (V4 m) e = let prefix_is : 8 ≡ m.prefix = cc in omega (arith, prefix_is)
    fits (V6 m) e = cc

pub a_prefix_length_past_the_width_stands_for_nothing : (n : IpNetwork)
    → ¬ (StandsForIp (either 4 (record { address = replicate 4 0; prefix = 33 }) blank_six) n)
a_prefix_length_past_the_width_stands_for_nothing (V4 m) h =
    let told : Some (V4 (record { address = 0; prefix = 33 })) ≡ Some (V4 m) = h.told in
    let prefix_is : 33 ≡ m.prefix = cc in
    omega (arith, prefix_is, h.fits)
a_prefix_length_past_the_width_stands_for_nothing (V6 m) h =
    let told : Some (V4 (record { address = 0; prefix = 33 })) ≡ Some (V6 m) = h.told in cc

pub the_full_width_fits : ip_fits
    (either 6 (record { address = []; prefix = 200 }) (record { address = replicate 16 255; prefix = 128 }))
the_full_width_fits =
    (V6 (record { address = 0xffffffffffffffffffffffffffffffff; prefix = 128 }), record { told = refl; fits = lit≤ tt })

pub a_prefix_length_of_33_does_not_fit : ¬ (ip_fits
    (either 4 (record { address = replicate 4 0; prefix = 33 }) blank_six))
a_prefix_length_of_33_does_not_fit (n, stands) = a_prefix_length_past_the_width_stands_for_nothing n stands

-- of two structs that represent no network, the first is reported
pub the_first_of_two_is_told : OfBoth (either 4 (record { address = replicate 4 0; prefix = 33 }) blank_six)
    (either 5 blank blank_six) (λ a b. Writes (λ (told : ℕ). told ≡ 1)) 7 7 prefix
the_first_of_two_is_told = Nothing
    (NoPrefix (V4 (record { address = 0; prefix = 33 })) refl (λ fits. omega (arith, fits)) refl) refl

pub the_second_of_two_is_not : ¬ (OfBoth (either 4 (record { address = replicate 4 0; prefix = 33 }) blank_six)
    (either 5 blank blank_six) (λ a b. Writes (λ (told : ℕ). told ≡ 1)) 7 7 no_family)
the_second_of_two_is_not (On (n, stands, goes)) = a_prefix_length_past_the_width_stands_for_nothing n stands
the_second_of_two_is_not (Nothing none same) = a_prefix_length_past_the_width_is_no_missing_family none

goes_on : {M : Type 0} (held : IpInC) (n : IpNetwork) (GoesOn : IpNetwork → M → M → ℕ → Type 0) (before after : M)
    (code : ℕ) → StandsForIp held n → OfNetwork held GoesOn before after code → GoesOn n before after code
goes_on held n GoesOn before after code stands (On (m, other, goes)) =
    subst (λ (k : IpNetwork). GoesOn k before after code) (same_Some m n (sym other.told ∙ stands.told)) goes
goes_on held n GoesOn before after code stands (Nothing (NoFamily told is) same) =
    absurd (none-some n (sym told ∙ stands.told))
goes_on held n GoesOn before after code stands (Nothing (NoPrefix m told past is) same) =
    absurd (past (subst IpPrefixFits (same_Some n m (sym stands.told ∙ told)) stands.fits))

-- the greatest of the IPv4-mapped addresses, ::ffff:0:0/96 (RFC 4291, section 2.5.5.2), is an IPv6 address
abbrev mapped_in_c : IpInC
mapped_in_c = either 6 blank (record { address = replicate 10 0 ++ 255 ∷ 255 ∷ replicate 4 0; prefix = 96 })

pub the_greatest_mapped_address : (before : AddressInC)
    → TellsAddress ip_high mapped_in_c before (record { octets = replicate 10 0 ++ replicate 6 255; length = 16 }) ok
the_greatest_mapped_address before =
    On (
      V6 (record { address = 0xffff00000000; prefix = 96 }),
      record { told = refl; fits = lit≤ tt },
      (refl, (refl, refl)),
    )

pub it_is_no_ipv4_address : (before : AddressInC)
    → ¬ (TellsAddress ip_high mapped_in_c before (record { octets = replicate 4 255 ++ replicate 12 0; length = 4 }) ok)
it_is_no_ipv4_address before h =
    let told = goes_on mapped_in_c (V6 (record { address = 0xffff00000000; prefix = 96 }))
    (λ n. Writes (λ (after : AddressInC). HoldsAddress after (ip_high n))) before _ ok
    (record { told = refl; fits = lit≤ tt }) h in let length : 4 ≡ 16 = told.1.1 in omega (arith, length)

-- 0.0.0.0/0 is not part of ::/0: 0 is written, and not 1
pub no_part_of_the_other_family : TellsOfBoth IpSubnet (either 4 blank blank_six) (either 6 blank blank_six) 7 0 ok
no_part_of_the_other_family =
    On (
      V4 (record { address = 0; prefix = 0 }),
      record { told = refl; fits = lit≤ tt },
      On (
        V6 (record { address = 0; prefix = 0 }),
        record { told = refl; fits = lit≤ tt },
        (
          refl,
          (
            lit≤ tt,
            ((λ one. absurd (omega (arith, one))), (λ inside. absurd (inside (addresses.V4 0) (lit< tt, refl)))),
          ),
        ),
      ),
    )

pub it_is_not_told_as_one : ¬ (TellsOfBoth IpSubnet (either 4 blank blank_six) (either 6 blank blank_six) 7 1 ok)
it_is_not_told_as_one h =
    let second = goes_on (either 4 blank blank_six) (V4 (record { address = 0; prefix = 0 })) (λ a. OfNetwork (either 6
    blank blank_six) (λ b. Writes (IsFlag (IpSubnet a b)))) 7 1 ok (record { told = refl; fits = lit≤ tt }) h in
    let told = goes_on (either 6 blank blank_six) (V6 (record { address = 0; prefix = 0 }))
    (λ b. Writes (IsFlag (IpSubnet (V4 (record { address = 0; prefix = 0 })) b))) 7 1 ok
    (record { told = refl; fits = lit≤ tt }) second in told.1.1.0 refl (addresses.V4 0) (lit< tt, refl)

-- ---- addresses

-- ::FFFF:129.144.52.38 and ::13.1.68.3, examples of RFC 4291, section 2.2: only the first is IPv4-mapped
pub a_mapped_address_is_unmapped : WritesUnmapped 0xffff81903426 (replicate 4 7) (129 ∷ 144 ∷ 52 ∷ 38 ∷ []) ok
a_mapped_address_is_unmapped = On (0x81903426, refl, (refl, refl))

pub no_other_address_is_unmapped : (after : List ℕ) → ¬ (WritesUnmapped 0x0d014403 (replicate 4 7) after ok)
no_other_address_is_unmapped after (On (a, is, done)) = let other : addresses.V6 0x0d014403 ≡ addresses.V4 a = is in cc
no_other_address_is_unmapped after (Nothing (none, is) same) = omega (arith, is)

abbrev four_octets : AddressInC
four_octets = record { octets = 10 ∷ 0 ∷ 0 ∷ 1 ∷ replicate 12 0; length = 4 }

pub an_address_is_held : HoldsAddress four_octets (addresses.V4 0x0a000001)
an_address_is_held = (refl, refl)

pub no_ipv4_address_is_held_in_the_last_octets : ¬ (HoldsAddress
    (record { octets = replicate 12 0 ++ 10 ∷ 0 ∷ 0 ∷ 1 ∷ []; length = 4 }) (addresses.V4 0x0a000001))
no_ipv4_address_is_held_in_the_last_octets h = let first : 0 ≡ 10 = ap (λ (l : List ℕ). get_or l 0 0) h.0 in
    omega (arith, first)

pub no_octet_follows_those_of_an_ipv4_address : ¬ (HoldsAddress
    (record { octets = 10 ∷ 0 ∷ 0 ∷ 1 ∷ replicate 11 0 ++ 1 ∷ []; length = 4 }) (addresses.V4 0x0a000001))
no_octet_follows_those_of_an_ipv4_address h = let last : 1 ≡ 0 = ap (λ (l : List ℕ). get_or l 15 0) h.0 in
    omega (arith, last)

pub an_ipv4_address_has_not_sixteen_octets : ¬ (HoldsAddress
    (record { octets = 10 ∷ 0 ∷ 0 ∷ 1 ∷ replicate 12 0; length = 16 }) (addresses.V4 0x0a000001))
an_ipv4_address_has_not_sixteen_octets h = let length = h.1 in omega (arith, length)

pub an_ipv6_address_has_not_four : ¬ (HoldsAddress (record { octets = replicate 16 0; length = 4 }) (addresses.V6 0))
an_ipv6_address_has_not_four h = let length = h.1 in omega (arith, length)

pub octets_behind_are_not_looked_at : held_address (record { octets = 10 ∷ 0 ∷ 0 ∷ 1 ∷ replicate 12 7; length = 4 })
    ≡ Some (addresses.V4 0x0a000001)
octets_behind_are_not_looked_at = refl

pub sixteen_octets_are_an_ipv6_address : held_address (record { octets = replicate 15 0 ++ 1 ∷ []; length = 16 }) ≡ Some
    (addresses.V6 1)
sixteen_octets_are_an_ipv6_address = refl

pub five_octets_are_held_by_none : held_address (record { octets = replicate 16 0; length = 5 }) ≡ None
five_octets_are_held_by_none = refl
