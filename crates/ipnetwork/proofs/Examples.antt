-- Values at which a misreading of the definitions would show. All of these are proved by computing.
use Rattle.ipnetwork.proofs.Words.{◌≡◌, [], ◌∷◌, Ok, Err, inl, refl, arith, codes, digits, le_bytes, Less, Greater, v6_of, gap_below, Network, count_up, Addr, NetworkIsTooLarge, IpNetwork, V4, V6, IpMember, IpSubnet, IpOverlap, address_of, prefix_of, ip_mask_of, ip_low, ip_high, ip_size, ip_members, made_of, width_of, Makes, IsIpMask, GivesMaskPrefix, MakesWithMask, TakesV4, TakesV6, IsIpBefore, IsIpAtMost, ip_network_cmp, ip_network_writes, ip_network_text, ip_network_of, size_number, FitsV4}
use Rattle.ipnetwork_addr.specs.declared.ip.IpAddr.TheVariants as addresses
use Rattle.ipnetwork_family.specs.declared.error.IpNetworkError.TheVariants as errors
use Rattle.ipnetwork.specs.declared.size.NetworkSize.TheVariants as sizes

-- 0.0.0.0/0, ::/0, and ::ffff:0:0/96, the block of the IPv4-mapped addresses
abbrev pub all_v4 : IpNetwork
all_v4 = V4 (record { address = 0; prefix = 0 })

abbrev pub all_v6 : IpNetwork
all_v6 = V6 (record { address = 0; prefix = 0 })

abbrev pub mapped : IpNetwork
mapped = V6 (record { address = 281470681743360; prefix = 96 })

-- ::ffff:1.2.3.4 and 1.2.3.4
pub mapped_address_is_a_member : IpMember mapped (addresses.V6 281470698652420)
mapped_address_is_a_member = (omega arith, refl)

pub mapped_address_is_no_v4_member : ¬ (IpMember all_v4 (addresses.V6 281470698652420))
mapped_address_is_no_v4_member h = h

pub v4_address_is_no_mapped_member : ¬ (IpMember mapped (addresses.V4 16909060))
v4_address_is_no_mapped_member h = h

pub everything_v4_is_no_part_of_everything_v6 : ¬ (IpSubnet all_v4 all_v6)
everything_v4_is_no_part_of_everything_v6 inside = inside (addresses.V4 0) (omega arith, refl)

pub everything_v4_and_v6_do_not_overlap : ¬ (IpOverlap all_v4 all_v6)
everything_v4_and_v6_do_not_overlap (addresses.V4 x, m, n) = n
everything_v4_and_v6_do_not_overlap (addresses.V6 x, m, n) = m

pub size_of_everything_v4 : ip_size all_v4 ≡ sizes.V4 4294967295
size_of_everything_v4 = refl

pub size_of_the_mapped_block : ip_size mapped ≡ sizes.V6 4294967296
size_of_the_mapped_block = refl

pub family_does_not_count : size_number (sizes.V4 100) ≡ size_number (sizes.V6 100)
family_does_not_count = refl

pub small_v6_size_does_not_fit : FitsV4 (sizes.V6 100) (Err NetworkIsTooLarge)
small_v6_size_does_not_fit = refl

pub host_of_an_address : made_of (addresses.V4 7) (width_of (addresses.V4 7)) ≡ V4 (record { address = 7; prefix = 32 })
host_of_an_address = refl

-- 255.255.0.0 is a mask as an IPv4 address, but its number is not one as an IPv6 address
pub mask_of_16 : IsIpMask (addresses.V4 4294901760) 16
mask_of_16 = (omega arith, refl)

pub every_v4_before_every_v6 : ip_network_cmp (V4 (record { address = 4294967295; prefix = 32 })) all_v6 ≡ Less
every_v4_before_every_v6 = refl

pub no_v6_before_a_v4 : ¬ (IsIpAtMost all_v6 all_v4)
no_v6_before_a_v4 h = h

pub address_before_prefix : IsIpBefore (V4 (record { address = 1; prefix = 32 }))
    (V4 (record { address = 2; prefix = 0 }))
address_before_prefix = inl (omega arith)

pub v4_text : ip_network_of (codes "10.1.9.32/16") ≡ Ok (V4 (record { address = 167840032; prefix = 16 }))
unfolding digits v6_of gap_below
v4_text = refl

pub v6_text : ip_network_of (codes "::1") ≡ Ok (V6 (record { address = 1; prefix = 128 }))
unfolding digits v6_of gap_below
v6_text = refl

-- the cause within a family is not reported
pub prefix_past_the_width : ip_network_of (codes "10.0.0.0/99") ≡ Err Addr
unfolding digits v6_of gap_below
prefix_past_the_width = refl

pub two_slashes : ip_network_of (codes "::1/24/") ≡ Err Addr
unfolding digits v6_of gap_below
two_slashes = refl

-- ---- 2001:db8::3/126, a network with host bits; its least member is 2001:db8::

abbrev pub four : Network
four = record { address = 42540766411282592856903984951653826563; prefix = 126 }

pub host_bits_are_in_the_address : (address_of (V6 four) ≡ addresses.V6 42540766411282592856903984951653826563)
    × (prefix_of (V6 four) ≡ 126)
host_bits_are_in_the_address = (refl, refl)

pub and_not_in_the_least_member : ip_low (V6 four) ≡ addresses.V6 42540766411282592856903984951653826560
and_not_in_the_least_member = refl

pub greatest_member : ip_high (V6 (record { address = 42540766411282592856903984951653826561; prefix = 126 }))
    ≡ addresses.V6 42540766411282592856903984951653826563
greatest_member = refl

-- ffff:ffff:ffff::, the mask of prefix length 48
pub mask_of_48 : ip_mask_of (V6 (record { address = 1; prefix = 48 })) ≡ addresses.V6
    340282366920937254537554992802593505280
mask_of_48 = refl

pub members_ascend :
    ip_members (V6 four)
    ≡ addresses.V6 42540766411282592856903984951653826560 ∷ addresses.V6 42540766411282592856903984951653826561
    ∷ addresses.V6 42540766411282592856903984951653826562 ∷ addresses.V6 42540766411282592856903984951653826563 ∷ []
unfolding count_up
members_ascend = refl

pub v4_members_ascend : ip_members (V4 (record { address = 7; prefix = 31 })) ≡ addresses.V4 6 ∷ addresses.V4 7 ∷ []
unfolding count_up
v4_members_ascend = refl

pub v6_is_printed : ip_network_text (V6 (record { address = 1; prefix = 64 })) ≡ codes "::1/64"
unfolding digits
v6_is_printed = refl

-- ---- making networks

pub greatest_prefix_is_made : Makes (addresses.V6 1) 128 (Ok (V6 (record { address = 1; prefix = 128 })))
greatest_prefix_is_made = (refl, omega arith)

pub one_more_is_refused : Makes (addresses.V4 1) 33 (Err errors.InvalidPrefix)
one_more_is_refused = (refl, omega arith)

pub a_prefix_is_not_refused : ¬ (Makes (addresses.V4 1) 32 (Err errors.InvalidPrefix))
a_prefix_is_not_refused h = omega (arith, h.1)

-- 10.0.0.1 with ffff:ff00:: is 10.0.0.1/24: a mask of one family gives a prefix length for the other
pub mask_of_the_other_family : MakesWithMask (addresses.V4 167772161)
    (addresses.V6 340282346638528859811704183484516925440) (Ok (V4 (record { address = 167772161; prefix = 24 })))
mask_of_the_other_family = (refl, omega arith, (omega arith, refl))

-- ::1 with 255.255.0.0 is ::1/16
pub mask_of_v4_for_v6 : MakesWithMask (addresses.V6 1) (addresses.V4 4294901760)
    (Ok (V6 (record { address = 1; prefix = 16 })))
mask_of_v4_for_v6 = (refl, omega arith, (omega arith, refl))

-- ffff:ffff:8000::, the mask of prefix length 33, gives no prefix length for IPv4
pub mask_past_the_width : ¬ (MakesWithMask (addresses.V4 1) (addresses.V6 340282366881324382206242438634996236288)
    (Ok (V4 (record { address = 1; prefix = 33 }))))
mask_past_the_width h = omega (arith, h.1)

pub mask_is_converted : GivesMaskPrefix (addresses.V6 340282346638528859811704183484516925440) (Ok 24)
mask_is_converted = (omega arith, refl)

pub v4_is_taken : TakesV4 (V4 four) (Ok four)
v4_is_taken = refl

pub v6_is_no_v4 : ¬ (TakesV4 (V6 four) (Ok four))
v6_is_no_v4 h = cc

pub v6_is_taken : TakesV6 (V6 four) (Ok four)
v6_is_taken = refl

pub v4_is_no_v6 : ¬ (TakesV6 (V4 four) (Ok four))
v4_is_no_v6 h = cc

-- ---- order and hashes across the families

pub each_v4_comes_first : (a b : Network) → IsIpBefore (V4 a) (V6 b) × IsIpAtMost (V4 a) (V6 b)
each_v4_comes_first a b = (tt, tt)

pub no_v6_comes_first : (a b : Network) → ¬ (IsIpBefore (V6 a) (V4 b)) × ¬ (IsIpAtMost (V6 a) (V4 b))
    × (ip_network_cmp (V6 a) (V4 b) ≡ Greater)
no_v6_comes_first a b = ((λ h. h), (λ h. h), refl)

-- the family is fed as eight bytes, the address as 4 or 16, and the prefix length as one
pub v4_is_fed : ip_network_writes (V4 (record { address = 258; prefix = 24 })) ≡ (0 ∷ 0 ∷ 0 ∷ 0 ∷ 0 ∷ 0 ∷ 0 ∷ 0 ∷ [])
    ∷ (2 ∷ 1 ∷ 0 ∷ 0 ∷ []) ∷ (24 ∷ []) ∷ []
unfolding le_bytes
v4_is_fed = refl

pub v6_is_fed :
    ip_network_writes (V6 (record { address = 258; prefix = 64 }))
    ≡ (1 ∷ 0 ∷ 0 ∷ 0 ∷ 0 ∷ 0 ∷ 0 ∷ 0 ∷ []) ∷ (2 ∷ 1 ∷ 0 ∷ 0 ∷ 0 ∷ 0 ∷ 0 ∷ 0 ∷ 0 ∷ 0 ∷ 0 ∷ 0 ∷ 0 ∷ 0 ∷ 0 ∷ 0 ∷ [])
    ∷ (64 ∷ []) ∷ []
unfolding le_bytes
v6_is_fed = refl

-- ---- sizes

pub size_is_its_number : (size_number (sizes.V4 100) ≡ 100) × (size_number (sizes.V6 4294967296) ≡ 4294967296)
size_is_its_number = (refl, refl)

pub v4_size_fits : FitsV4 (sizes.V4 4294967295) (Ok 4294967295)
v4_size_fits = refl
