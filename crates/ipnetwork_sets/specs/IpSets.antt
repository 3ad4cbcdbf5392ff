-- Sets of addresses of either family, as lists of blocks.
use Rattle.std.specs.Prelude.{◌≡◌, ◌↔◌, ℕ, ◌<◌, ◌⊎◌, ◌++◌, Bool, IsTrue, List, length, map, Result, IfOk, OnErr, OnOk}
use Rattle.std.specs.List.{filter_map}
use Rattle.ipnetwork_addr.specs.Either.{FitsIp}
use Rattle.ipnetwork_addr.specs.declared.ip.IpAddr.{IpAddr}
use Rattle.ipnetwork_addr.specs.declared.ip.IpAddr.TheVariants as addresses
use Rattle.ipnetwork_family.specs.Network.{Network}
use Rattle.ipnetwork.specs.IpNetworks.{IpMember}
use Rattle.ipnetwork.specs.declared.ip_network.IpNetwork.{IpNetwork}
use Rattle.ipnetwork.specs.declared.ip_network.IpNetwork.TheVariants.{V4, V6}
use Rattle.ipnetwork_blocks.specs.AggregateIp.{as_v4, as_v6, IsIpAggregate}
use Rattle.ipnetwork_blocks.specs.AggregateIpLaws.{InIpUnion}
use Rattle.ipnetwork_blocks.specs.LeastList.{IsLeastList}

-- the IPv4 networks, followed by the IPv6 networks
abbrev pub v4_then_v6 : List Network → List Network → List IpNetwork
v4_then_v6 v4 v6 = map V4 v4 ++ map V6 v6

-- the list has the maximal blocks of the set's IPv4 addresses, in ascending order, followed by those of its IPv6
-- addresses
abbrev pub IsIpLeastList : (IpAddr → Type 0) → List IpNetwork → Type 0
IsIpLeastList set blocks = (v4 : List Network) × (v6 : List Network) × (blocks ≡ v4_then_v6 v4 v6)
    × IsLeastList 32 (λ x. set (addresses.V4 x)) v4 × IsLeastList 128 (λ x. set (addresses.V6 x)) v6

-- the list has the maximal blocks of its own union: IPv4 first, then IPv6, each in ascending order
abbrev pub IsIpAddressSet : List IpNetwork → Type 0
IsIpAddressSet blocks = IsIpAggregate blocks blocks

-- some address of the network is in the union of the others
abbrev pub MeetsIpUnion : IpNetwork → List IpNetwork → Type 0
MeetsIpUnion n networks = (x : IpAddr) × IpMember n x × InIpUnion networks x

-- x is in both sets
abbrev pub InIpBoth : List IpNetwork → List IpNetwork → IpAddr → Type 0
InIpBoth first second x = InIpUnion first x × InIpUnion second x

-- x is in the first set and not in the second
abbrev pub InIpFirstAlone : List IpNetwork → List IpNetwork → IpAddr → Type 0
InIpFirstAlone first second x = InIpUnion first x × ¬ (InIpUnion second x)

-- x is an address of its family that is not in the set
abbrev pub InIpComplement : List IpNetwork → IpAddr → Type 0
InIpComplement networks x = FitsIp x × ¬ (InIpUnion networks x)

-- x is in one of the two sets or in both
abbrev pub InIpEither : List IpNetwork → List IpNetwork → IpAddr → Type 0
InIpEither first second x = InIpUnion first x ⊎ InIpUnion second x

-- each address of the first set is in the second
abbrev pub IsIpWithin : List IpNetwork → List IpNetwork → Type 0
IsIpWithin first second = (x : IpAddr) → InIpUnion first x → InIpUnion second x

-- no address is in both sets
abbrev pub AreIpDisjoint : List IpNetwork → List IpNetwork → Type 0
AreIpDisjoint first second = (x : IpAddr) → ¬ (InIpBoth first second x)

-- `v4_room` is less than the number of IPv4 networks, or `v6_room` less than the number of IPv6 networks
abbrev pub HasTooLittleRoom : ℕ → ℕ → List IpNetwork → Type 0
HasTooLittleRoom v4_room v6_room networks = (v4_room < length (filter_map as_v4 networks))
    ⊎ (v6_room < length (filter_map as_v6 networks))

-- the set with the blocks `old` is changed to the set of these addresses, or an error is returned
pub record ChangesTo {E : Type 0} (addresses : IpAddr → Type 0) (told : Type 0) (old new : List IpNetwork)
    (result : Result Bool E) : Type 0 where
  -- on success, `new` has the blocks of these addresses, and the result is whether `told` holds
  pub set : OnOk result (IsIpLeastList addresses new)
  pub tells : IfOk result (λ answer. IsTrue answer ↔ told)
  -- an error is returned only if the new set has more blocks, and then nothing is changed
  pub room : (blocks : List IpNetwork) → IsIpLeastList addresses blocks → OnErr result (length old < length blocks)
  pub unchanged : OnErr result (new ≡ old)
