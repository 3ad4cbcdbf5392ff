-- The laws of aggregation for networks of either family, derived from those for one family.
use Rattle.ipnetwork_blocks.proofs.Words.{◌↔◌, ℕ, refl, subst, List, Option, Contains, filter_map, IpAddr, Network, IsNetwork, Subnet, IpSubnet, AsksItsFamily, IpNetwork, V4, V6, NetworkSize, LiesInUnion, IsAggregate, as_v4, as_v6, IsIpAggregate, LiesInIpUnion, IpAggregateHasNetworks, AggregateHasNetworks}
use Rattle.ipnetwork_addr.specs.declared.ip.IpAddr.TheVariants as addresses
use Rattle.ipnetwork.specs.declared.size.NetworkSize.TheVariants as sizes
use Rattle.ipnetwork_blocks.proofs.AggregateIp.{gives}
use Rattle.ipnetwork_blocks.proofs.Families.{IsFamily, v4_family, v6_family, v4_own, v6_own, listed, lies_in_family}

-- ---- the aggregate of each family in that of both

v4_aggregate : (ns r : List IpNetwork) → IsIpAggregate ns r → IsAggregate 32 (filter_map as_v4 ns) (filter_map as_v4 r)
v4_aggregate ns r h = subst (IsAggregate 32 (filter_map as_v4 ns)) (v4_own r h.0 h.1 h.2) h.3

v6_aggregate : (ns r : List IpNetwork) → IsIpAggregate ns r → IsAggregate 128 (filter_map as_v6 ns) (filter_map as_v6 r)
v6_aggregate ns r h = subst (IsAggregate 128 (filter_map as_v6 ns)) (v6_own r h.0 h.1 h.2) h.4

module _ {w : ℕ} {own : IpNetwork → Option Network} {put : Network → IpNetwork} {address : ℕ → IpAddr} {size : ℕ
    → NetworkSize}
    (family : IsFamily w own put address) (asks : AsksItsFamily w put address size) where
  has_networks : AggregateHasNetworks → (ns r : List IpNetwork) → IsAggregate w (filter_map own ns) (filter_map own r)
      → (n : Network) → IsNetwork w n
      → LiesInIpUnion (put n) ns ↔ ((b : IpNetwork) × Contains r b × IpSubnet (put n) b)
  has_networks law ns r h n fits = (
    (λ lies. let o = parts.0 ((lies_in_family family ns n).1 lies) in
        (put o.0, (listed family r o.0).0 o.1, (asks.subnet n o.0).1 o.2)),
    (λ o.
        let m = family.one o.0 n.address (o.2 (address n.address) (family.member n n.address (fits.address_fits, refl)))
        in
        (lies_in_family family ns n).0
        (parts.1 (
          m.0,
          gives own r o.0 m.0 o.1 m.1,
          (asks.subnet n m.0).0 (subst (λ (b : IpNetwork). IpSubnet (put n) b) (family.kept o.0 m.0 m.1) o.2),
        ))),
  )
    where
      parts : LiesInUnion w n (filter_map own ns) ↔ ((b : Network) × Contains (filter_map own r) b × Subnet w n b)
      parts = law w (filter_map own ns) (filter_map own r) h n fits

module _ (v4 : AsksItsFamily 32 V4 addresses.V4 sizes.V4) (v6 : AsksItsFamily 128 V6 addresses.V6 sizes.V6) where
  pub ip_has_networks : AggregateHasNetworks → IpAggregateHasNetworks
  ip_has_networks law ns r h (V4 n) fits = has_networks v4_family v4 law ns r (v4_aggregate ns r h) n fits
  ip_has_networks law ns r h (V6 n) fits = has_networks v6_family v6 law ns r (v6_aggregate ns r h) n fits
