-- The network in a network of either family, and the order of networks of one family.
use Rattle.std.specs.Prelude.{◌≡◌}
use Rattle.std.specs.declared.cmp.Ordering.{Ordering}
use Rattle.ipnetwork_family.specs.Network.{Network, network_cmp}
use Rattle.ipnetwork.specs.declared.ip_network.IpNetwork.{IpNetwork}
use Rattle.ipnetwork.specs.declared.ip_network.IpNetwork.TheVariants.{V4, V6}
use Rattle.ipnetwork.specs.IpNetworks.{IsV4, IsV6}

-- the address and the prefix length, whatever the family
abbrev pub the_network : IpNetwork → Network
the_network (V4 n) = n
the_network (V6 n) = n

-- a comparison that orders `V4` values as their networks orders any two IPv4 networks so
pub v4_order : (cmp : IpNetwork → IpNetwork → Ordering) → ((a b : Network) → cmp (V4 a) (V4 b) ≡ network_cmp a b)
    → (x y : IpNetwork) → IsV4 x → IsV4 y → cmp x y ≡ network_cmp (the_network x) (the_network y)
v4_order cmp h (V4 a) (V4 b) v w = h a b
v4_order cmp h (V4 a) (V6 b) v w = absurd w
v4_order cmp h (V6 a) y v w = absurd v

-- a comparison that orders `V6` values as their networks orders any two IPv6 networks so
pub v6_order : (cmp : IpNetwork → IpNetwork → Ordering) → ((a b : Network) → cmp (V6 a) (V6 b) ≡ network_cmp a b)
    → (x y : IpNetwork) → IsV6 x → IsV6 y → cmp x y ≡ network_cmp (the_network x) (the_network y)
v6_order cmp h (V6 a) (V6 b) v w = h a b
v6_order cmp h (V6 a) (V4 b) v w = absurd w
v6_order cmp h (V4 a) y v w = absurd v
