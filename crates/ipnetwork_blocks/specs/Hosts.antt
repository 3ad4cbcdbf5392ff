-- The addresses that the hosts of a network may have.
use Rattle.std.specs.Prelude.{◌≡◌, ℕ, ◌≤◌, List, [], ◌∷◌, ◌++◌}
use Rattle.ipnetwork_family.specs.Network.{Network, members, low, high}

-- the hosts of an IPv4 network: all members except the first and the last up to prefix length 30, and all members at 31
-- and 32 (RFC 3021)
pub record AreIpv4Hosts (n : Network) (hosts : List ℕ) : Type 0 where
  pub inner : n.prefix ≤ 30 → members 32 n ≡ low 32 n ∷ hosts ++ high 32 n ∷ []
  pub whole : 31 ≤ n.prefix → members 32 n ≡ hosts

-- the hosts of an IPv6 network: all members except the first up to prefix length 126 (RFC 4291, section 2.6.1), and all
-- members at 127 and 128 (RFC 6164)
pub record AreIpv6Hosts (n : Network) (hosts : List ℕ) : Type 0 where
  pub inner : n.prefix ≤ 126 → members 128 n ≡ low 128 n ∷ hosts
  pub whole : 127 ≤ n.prefix → members 128 n ≡ hosts
