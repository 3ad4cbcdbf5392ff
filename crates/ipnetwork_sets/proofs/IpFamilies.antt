-- Lists of networks of either family, and the networks of each family in them.
use Rattle.ipnetwork_sets.proofs.Words.{◌≡◌, ◌↔◌, ℕ, suc, ◌<◌, sym, refl, ap, subst, ◌∙◌, List, [], ◌∷◌, ◌++◌, map, length, get_or, take, Option, map-id, filter_map-append, take-suc, filter_map, IpAddr, Network, IpNetwork, V4, V6, InUnion, IsAggregate, as_v4, as_v6, IsIpAggregate, InIpUnion, IsLeastList, IsFamily, v4_family, v6_family, v4_of_both, v6_of_both, v4_own, v6_own, in_family, least_of_same, IsAddressSet, MeetsUnion, v4_then_v6, IsIpLeastList, IsIpAddressSet, MeetsIpUnion}
use Rattle.ipnetwork_addr.specs.declared.ip.IpAddr.TheVariants as addresses

-- ---- the addresses of each family

-- a network shares an address with the union exactly if it shares one with the union of its family's networks
pub meets_in_family : {w : ℕ} {own : IpNetwork → Option Network} {put : Network → IpNetwork} {address : ℕ → IpAddr}
    → IsFamily w own put address → (ns : List IpNetwork) (n : Network)
    → MeetsUnion w n (filter_map own ns) ↔ MeetsIpUnion (put n) ns
meets_in_family {w} {own} {put} {address} family ns n = (
  (λ h. (address h.0, family.member n h.0 h.1, (in_family family ns h.0).0 h.2)),
  (λ h. let o = family.only n h.0 h.1 in
      (o.0, o.2, (in_family family ns o.0).1 (subst (λ (y : IpAddr). InIpUnion ns y) o.1 h.2))),
)

pub in_v4 : (ns : List IpNetwork) (x : ℕ) → InUnion 32 (filter_map as_v4 ns) x ↔ InIpUnion ns (addresses.V4 x)
in_v4 = in_family v4_family

pub in_v6 : (ns : List IpNetwork) (x : ℕ) → InUnion 128 (filter_map as_v6 ns) x ↔ InIpUnion ns (addresses.V6 x)
in_v6 = in_family v6_family

-- ---- least lists

-- the least list of a set is that of its IPv4 addresses, followed by that of its IPv6 addresses
pub put_together : (S : IpAddr → Type 0) (S4 S6 : ℕ → Type 0) (v4 v6 : List Network)
    → ((x : ℕ) → S4 x ↔ S (addresses.V4 x)) → ((x : ℕ) → S6 x ↔ S (addresses.V6 x))
    → IsLeastList 32 S4 v4 → IsLeastList 128 S6 v6 → IsIpLeastList S (v4_then_v6 v4 v6)
put_together S S4 S6 v4 v6 same4 same6 h k = (
  v4,
  v6,
  refl,
  least_of_same 32 S4 (λ x. S (addresses.V4 x)) v4 same4 h,
  least_of_same 128 S6 (λ x. S (addresses.V6 x)) v6 same6 k,
)

-- the blocks of each family in the least list of a set are the least list of the family's addresses
pub v4_part : (S : IpAddr → Type 0) (S4 : ℕ → Type 0) (r : List IpNetwork) → ((x : ℕ) → S4 x ↔ S (addresses.V4 x))
    → IsIpLeastList S r → IsLeastList 32 S4 (filter_map as_v4 r)
v4_part S S4 r same h =
    subst (IsLeastList 32 S4) (v4_own r h.0 h.1 h.2)
    (least_of_same 32 (λ x. S (addresses.V4 x)) S4 h.0 (λ x. ((same x).1, (same x).0)) h.3)

pub v6_part : (S : IpAddr → Type 0) (S6 : ℕ → Type 0) (r : List IpNetwork) → ((x : ℕ) → S6 x ↔ S (addresses.V6 x))
    → IsIpLeastList S r → IsLeastList 128 S6 (filter_map as_v6 r)
v6_part S S6 r same h =
    subst (IsLeastList 128 S6) (v6_own r h.0 h.1 h.2)
    (least_of_same 128 (λ x. S (addresses.V6 x)) S6 h.1 (λ x. ((same x).1, (same x).0)) h.4)

-- a list without networks of either family is empty
pub none_of_either : (ns : List IpNetwork) → filter_map as_v4 ns ≡ [] → filter_map as_v6 ns ≡ [] → ns ≡ []
none_of_either [] e f = refl
none_of_either (V4 n ∷ ns) e f = cc
none_of_either (V6 n ∷ ns) e f = cc

-- ---- sets and aggregates, put together

pub set_of_families : (v4 v6 : List Network) → IsAddressSet 32 v4 → IsAddressSet 128 v6
    → IsIpAddressSet (v4_then_v6 v4 v6)
set_of_families v4 v6 h k = (
  v4,
  v6,
  refl,
  subst (λ (l : List Network). IsAggregate 32 l v4) (sym (v4_of_both v4 v6)) h,
  subst (λ (l : List Network). IsAggregate 128 l v6) (sym (v6_of_both v4 v6)) k,
)

-- the aggregate of the networks of two lists
pub aggregate_of_lists : (v4 v6 r4 r6 : List Network) (r : List IpNetwork) → IsAggregate 32 (map (λ n. n) v4) r4
    → IsAggregate 128 (map (λ n. n) v6) r6 → r ≡ v4_then_v6 r4 r6
    → IsIpAggregate (v4_then_v6 v4 v6) r
aggregate_of_lists v4 v6 r4 r6 r h k e = (
  r4,
  r6,
  e,
  subst (λ (l : List Network). IsAggregate 32 l r4) (map-id v4 ∙ sym (v4_of_both v4 v6)) h,
  subst (λ (l : List Network). IsAggregate 128 l r6) (map-id v6 ∙ sym (v6_of_both v4 v6)) k,
)

-- the aggregate of the networks of one list, split by family
pub aggregate_of_parts : (ns r : List IpNetwork) (v4 v6 : List Network) → v4 ≡ filter_map as_v4 ns
    → v6 ≡ filter_map as_v6 ns → IsIpAggregate (v4_then_v6 v4 v6) r → IsIpAggregate ns r
aggregate_of_parts ns r v4 v6 e f h = (
  h.0,
  h.1,
  h.2,
  subst (λ (l : List Network). IsAggregate 32 l h.0) (v4_of_both v4 v6 ∙ e) h.3,
  subst (λ (l : List Network). IsAggregate 128 l h.1) (v6_of_both v4 v6 ∙ f) h.4,
)

-- one more network of a list that is split by family
pub one_more : (own : IpNetwork → Option Network) (ns : List IpNetwork) (i : ℕ) (n : IpNetwork)
    (before after : List Network) → i < length ns → get_or ns i n ≡ n
    → before ≡ filter_map own (take i ns) → after ≡ before ++ filter_map own (n ∷ [])
    → after ≡ filter_map own (take (suc i) ns)
one_more own ns i n before after l is e f =
    f ∙ ap (λ b. b ++ filter_map own (n ∷ [])) e ∙ sym (filter_map-append own (take i ns) (n ∷ []))
    ∙ ap (filter_map own) (ap (λ y. take i ns ++ (y ∷ [])) (sym is) ∙ sym (take-suc ns i n l))
