-- Sets of addresses of both families at which a misreading of the definitions would show: `all4` has all IPv4
-- addresses, `all6` all IPv6 addresses.
use Rattle.ipnetwork_sets.proofs.Words.{◌≡◌, ℕ, ◌-◌, ◌^◌, inl, inr, refl, sym, subst, ap, arith, ⊎_elim, ◌<◌, List, [], ◌∷◌, ◌++◌, length, map, true, false, Contains, filter_map, IpAddr, Network, IpMember, IpNetwork, V4, V6, as_v4, as_v6, InIpUnion, v4_of_both, v6_of_both, contains_cons, contains_head, contains_nil, contains_tail, same_ip_blocks, v4_then_v6, HasTooLittleRoom, IsIpLeastList, IsIpAddressSet, MeetsIpUnion, InIpBoth, InIpFirstAlone, InIpComplement, InIpEither, IsIpWithin, AreIpDisjoint}
use Rattle.ipnetwork_addr.specs.declared.ip.IpAddr.TheVariants as addresses

abbrev net : ℕ → ℕ → Network
net address prefix = record { address = address; prefix = prefix }

abbrev all4 : List IpNetwork
all4 = V4 (net 0 0) ∷ []

abbrev all6 : List IpNetwork
all6 = V6 (net 0 0) ∷ []

in_one : (n : IpNetwork) (x : IpAddr) → InIpUnion (n ∷ []) x → IpMember n x
in_one n x c =
    ⊎_elim
    (λ (e : n ≡ c.0). subst (λ (m : IpNetwork). IpMember m x) (sym e) c.2)
    (λ (none : Contains [] c.0). absurd (contains_nil c.0 none))
    (contains_cons n [] c.0 c.1)

one_in : (n : IpNetwork) (x : IpAddr) → IpMember n x → InIpUnion (n ∷ []) x
one_in n x m = (n, contains_head n [], m)

-- an address of the other family with the same number is none of a set
pub families_are_disjoint : AreIpDisjoint all4 all6
families_are_disjoint (addresses.V4 x) p = in_one (V6 (net 0 0)) (addresses.V4 x) p.1
families_are_disjoint (addresses.V6 x) p = in_one (V4 (net 0 0)) (addresses.V6 x) p.0

pub one_address_is_shared : ¬ (AreIpDisjoint all4 (V4 (net 1 32) ∷ []))
one_address_is_shared h =
    h (addresses.V4 1) (
      one_in (V4 (net 0 0)) (addresses.V4 1) (omega arith, refl),
      one_in (V4 (net 1 32)) (addresses.V4 1) (omega arith, refl),
    )

pub one_family_is_not_in_the_other : ¬ (IsIpWithin all6 all4)
one_family_is_not_in_the_other h =
    in_one (V4 (net 0 0)) (addresses.V6 1)
    (h (addresses.V6 1) (one_in (V6 (net 0 0)) (addresses.V6 1) (omega arith, refl)))

pub none_is_within : IsIpWithin [] all4
none_is_within x c = absurd (contains_nil c.0 c.1)

pub in_both : InIpBoth all4 (V6 (net 7 128) ∷ V4 (net 7 32) ∷ []) (addresses.V4 7)
in_both = (
  one_in (V4 (net 0 0)) (addresses.V4 7) (omega arith, refl),
  (
    V4 (net 7 32),
    contains_tail (V6 (net 7 128)) (V4 (net 7 32) ∷ []) (V4 (net 7 32))
        (contains_head (V4 (net 7 32)) []),
    (omega arith, refl),
  ),
)

pub in_the_second_too : ¬ (InIpBoth all4 all6 (addresses.V6 7))
in_the_second_too = families_are_disjoint (addresses.V6 7)

pub in_first_alone : InIpFirstAlone all4 all6 (addresses.V4 7)
in_first_alone =
    (one_in (V4 (net 0 0)) (addresses.V4 7) (omega arith, refl), λ c. in_one (V6 (net 0 0)) (addresses.V4 7) c)

pub in_both_not_alone : ¬ (InIpFirstAlone all4 all4 (addresses.V4 7))
in_both_not_alone p = p.1 p.0

pub in_either : InIpEither all4 all6 (addresses.V4 7) × InIpEither all4 all6 (addresses.V6 7)
in_either = (
  inl (one_in (V4 (net 0 0)) (addresses.V4 7) (omega arith, refl)),
  inr (one_in (V6 (net 0 0)) (addresses.V6 7) (omega arith, refl)),
)

pub last_of_the_complement : InIpComplement all4 (addresses.V6 (2 ^ 128 - 1))
last_of_the_complement = (omega arith, λ c. in_one (V4 (net 0 0)) (addresses.V6 (2 ^ 128 - 1)) c)

-- no number past the width is an address
pub past_the_last_address : ¬ (InIpComplement [] (addresses.V4 (2 ^ 32)))
past_the_last_address p = omega (arith, p.0)

pub second_network_is_met : MeetsIpUnion (V4 (net 7 31)) (V6 (net 6 127) ∷ V4 (net 6 32) ∷ [])
second_network_is_met = (
  addresses.V4 6,
  (omega arith, refl),
  (
    V4 (net 6 32),
    contains_tail (V6 (net 6 127)) (V4 (net 6 32) ∷ []) (V4 (net 6 32))
        (contains_head (V4 (net 6 32)) []),
    (omega arith, refl),
  ),
)

pub other_family_is_not_met : ¬ (MeetsIpUnion (V6 (net 0 0)) all4)
other_family_is_not_met h = apart h.0 h.1 h.2
  where
    apart : (x : IpAddr) → IpMember (V6 (net 0 0)) x → InIpUnion all4 x → ⊥
    apart (addresses.V4 x) m c = m
    apart (addresses.V6 x) m c = in_one (V4 (net 0 0)) (addresses.V6 x) c

-- ---- IPv4 blocks come first

v6_first : (n m : Network) (v4 v6 : List Network) → V6 n ∷ V4 m ∷ [] ≡ map V4 v4 ++ map V6 v6 → ⊥
v6_first n m [] [] e = cc
v6_first n m [] (x ∷ []) e = cc
v6_first n m [] (x ∷ y ∷ v6) e = cc
v6_first n m (x ∷ v4) v6 e = cc

pub no_set_has_ipv6_first : (n m : Network) → ¬ (IsIpAddressSet (V6 n ∷ V4 m ∷ []))
no_set_has_ipv6_first n m h = v6_first n m h.0 h.1 h.2

pub no_list_has_ipv6_first : (set : IpAddr → Type 0) (n m : Network) → ¬ (IsIpLeastList set (V6 n ∷ V4 m ∷ []))
no_list_has_ipv6_first set n m h = v6_first n m h.0 h.1 h.2

-- ---- equality

pub same_by_family : same_ip_blocks (V4 (net 1 32) ∷ V6 (net 1 128) ∷ []) (V4 (net 1 32) ∷ V6 (net 1 128) ∷ []) ≡ true
same_by_family = refl

pub other_family : same_ip_blocks (V4 (net 1 32) ∷ []) (V6 (net 1 32) ∷ []) ≡ false
other_family = refl

pub other_prefix : same_ip_blocks (V6 (net 0 127) ∷ []) (V6 (net 0 128) ∷ []) ≡ false
other_prefix = refl

-- ---- room

-- room for one IPv6 network is enough for one, and no room for IPv4 networks is enough for none
pub enough_for_one : (n : Network) → ¬ (HasTooLittleRoom 0 1 (v4_then_v6 [] (n ∷ [])))
enough_for_one n h =
    ⊎_elim
    (λ (l : 0 < length (filter_map as_v4 (v4_then_v6 [] (n ∷ [])))). omega
    (arith, l, ap length (v4_of_both [] (n ∷ []))))
    (λ (l : 1 < length (filter_map as_v6 (v4_then_v6 [] (n ∷ [])))). omega
    (arith, l, ap length (v6_of_both [] (n ∷ []))))
    h
