-- For IPv4 and IPv6, the definitions for any family agree with those of the family. Counts of bits for which a
-- misreading of their definitions would show.
use Rattle.ipnetwork_family.proofs.Words.{◌≡◌, ◌↔◌, ℕ, ◌≤◌, List, Result, refl, lit<, lit≤, arith, count_leading_zeros, count_trailing_zeros, canonical_v4, canonical_v6, Ipv4, Ipv6, SharesBits, EndsInZeros, v4_family, v6_family, NamesNetworkOf, ReadsNetworkOf, ParsesNetworkOf, text_of, text_length_of, NamesV4Network, ReadsV4Network, NamesV6Network, ReadsV6Network, Network, network_text, ParsesV4Network, ParsesV6Network, CidrFault, IpNetworkError}
use Rattle.ipnetwork_family.proofs.CountedBits.{shared_bits, trailing_zeros}

-- ---- the definitions of each family

pub v4_named : (text : List ℕ) (n : Network) → NamesNetworkOf v4_family text n ↔ NamesV4Network text n
v4_named text n = ((λ h. h), (λ h. h))

pub v6_named : (text : List ℕ) (n : Network) → NamesNetworkOf v6_family text n ↔ NamesV6Network text n
v6_named text n = ((λ h. h), (λ h. h))

pub v4_read : (text : List ℕ) (result : Result Network CidrFault) → ReadsNetworkOf v4_family text result
    ↔ ReadsV4Network text result
v4_read text result = ((λ h. h), (λ h. h))

pub v6_read : (text : List ℕ) (result : Result Network CidrFault) → ReadsNetworkOf v6_family text result
    ↔ ReadsV6Network text result
v6_read text result = ((λ h. h), (λ h. h))

pub v4_parsed : (text : List ℕ) (result : Result Network IpNetworkError) → ParsesNetworkOf v4_family text result
    ↔ ParsesV4Network text result
v4_parsed text result = ((λ h. h), (λ h. h))

pub v6_parsed : (text : List ℕ) (result : Result Network IpNetworkError) → ParsesNetworkOf v6_family text result
    ↔ ParsesV6Network text result
v6_parsed text result = ((λ h. h), (λ h. h))

pub v4_printed : (n : Network) → text_of v4_family n ≡ network_text canonical_v4 n
v4_printed n = refl

pub v6_printed : (n : Network) → text_of v6_family n ≡ network_text canonical_v6 n
v6_printed n = refl

-- the length of 255.255.255.255/32, and for IPv6 that of eight groups of four digits with /128
pub v4_longest : text_length_of v4_family ≡ 18
v4_longest = refl

pub v6_longest : text_length_of v6_family ≡ 43
v6_longest = refl

pub v4_refused : v4_family.refusal ≡ Ipv4
v4_refused = refl

pub v6_refused : v6_family.refusal ≡ Ipv6
v6_refused = refl

-- ---- counts of bits

-- an address shares all its bits with itself, and not only fewer
pub all_bits_shared : SharesBits 32 5 5 32
all_bits_shared = record { within = lit≤ tt; agree = refl; greatest = λ q le e. le }

pub no_fewer_shared : ¬ (SharesBits 32 5 5 31)
no_fewer_shared h = let more : 32 ≤ 31 = h.greatest 32 (lit≤ tt) refl in omega arith

-- 1 and 2 differ in the second to last bit
pub differing_bit_not_shared : ¬ (SharesBits 32 1 2 31)
differing_bit_not_shared h = let e : 0 ≡ 1 = h.agree in omega arith

-- 10.0.0.255 and 10.0.1.0
pub first_bits_shared : SharesBits 32 167772415 167772416 23
unfolding count_leading_zeros
first_bits_shared = shared_bits 32 167772415 167772416 (lit< tt) (lit< tt)

-- all bits of 0 are zeros
pub zero_ends_in_all : EndsInZeros 32 0 32
zero_ends_in_all = record { within = lit≤ tt; divides = refl; greatest = λ j le e. le }

pub zero_ends_in_no_fewer : ¬ (EndsInZeros 32 0 31)
zero_ends_in_no_fewer h = let more : 32 ≤ 31 = h.greatest 32 (lit≤ tt) refl in omega arith

pub eight_ends_in_three : EndsInZeros 32 8 3
unfolding count_trailing_zeros
eight_ends_in_three = trailing_zeros 32 8

pub eight_ends_in_no_more : ¬ (EndsInZeros 32 8 4)
eight_ends_in_no_more h = let e : 8 ≡ 0 = h.divides in omega arith

pub eight_ends_in_no_fewer : ¬ (EndsInZeros 32 8 2)
eight_ends_in_no_fewer h = let more : 3 ≤ 2 = h.greatest 3 (lit≤ tt) refl in omega arith
