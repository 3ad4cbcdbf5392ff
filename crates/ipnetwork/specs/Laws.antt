-- The laws of networks of either family.
use Rattle.std.specs.Prelude.{◌≡◌, ℕ, ◌<◌, ◌≤◌, ◌↔◌, List, map, Contains, Result, Ok, Err, IsErr, MatchResult}
use Rattle.std.specs.List.{AllPairs}
use Rattle.ipnetwork_addr.specs.Either.{IsAddrBefore}
use Rattle.ipnetwork_addr.specs.declared.ip.IpAddr.{IpAddr}
use Rattle.ipnetwork_family.specs.Masks.{GivesPrefixOfMask}
use Rattle.ipnetwork_family.specs.Network.{Network, IsNetwork, Member, low, high, mask_of, size_of, members, Subnet}
use Rattle.ipnetwork_family.specs.Network.{Overlap, IsNetworkBefore, IsNetworkAtMost, network_cmp}
use Rattle.ipnetwork_family.specs.NetworkText.{network_text}
use Rattle.ipnetwork_family.specs.declared.error.IpNetworkError.{IpNetworkError}
use Rattle.ipnetwork_family.specs.declared.error.IpNetworkError.TheVariants.{InvalidPrefix}
use Rattle.ipnetwork.specs.IpNetworks.{IsIpNetwork, address_of, prefix_of, ip_mask_of, ip_low, ip_high, ip_size}
use Rattle.ipnetwork.specs.IpNetworks.{ip_members, IpMember, IpSubnet, IpOverlap, width_of, made_of, Makes, IsIpMask}
use Rattle.ipnetwork.specs.IpNetworks.{GivesMaskPrefix, MakesWithMask, IsIpBefore, IsIpAtMost, ip_network_cmp}
use Rattle.ipnetwork.specs.IpNetworkText.{NamesIpNetwork, ip_network_text}
use Rattle.ipnetwork.specs.declared.error.WrongFamily.{WrongFamily}
use Rattle.ipnetwork.specs.declared.ip_network.IpNetwork.{IpNetwork}
use Rattle.ipnetwork.specs.declared.size.NetworkSize.{NetworkSize}

-- each question about a network of either family is answered as in its own family; that has addresses of w bits, and
-- `network`, `address` and `size` convert its networks, addresses and sizes to those of either family
pub record AsksItsFamily (w : ℕ) (network : Network → IpNetwork) (address : ℕ → IpAddr)
    (size : ℕ → NetworkSize) : Type 0 where
  pub network_fits : (n : Network) → IsIpNetwork (network n) ↔ IsNetwork w n
  pub its_address : (n : Network) → address_of (network n) ≡ address n.address
  pub its_prefix : (n : Network) → prefix_of (network n) ≡ n.prefix
  pub its_mask : (n : Network) → ip_mask_of (network n) ≡ address (mask_of w n.prefix)
  pub its_low : (n : Network) → ip_low (network n) ≡ address (low w n)
  pub its_high : (n : Network) → ip_high (network n) ≡ address (high w n)
  pub its_size : (n : Network) → ip_size (network n) ≡ size (size_of w n)
  pub its_members : (n : Network) → ip_members (network n) ≡ map address (members w n)
  pub member : (n : Network) (x : ℕ) → IpMember (network n) (address x) ↔ Member w n x
  pub subnet : (a b : Network) → IpSubnet (network a) (network b) ↔ Subnet w a b
  pub overlap : (a b : Network) → IpOverlap (network a) (network b) ↔ Overlap w a b
  pub before : (a b : Network) → IsIpBefore (network a) (network b) ↔ IsNetworkBefore a b
  pub at_most : (a b : Network) → IsIpAtMost (network a) (network b) ↔ IsNetworkAtMost a b
  pub compare : (a b : Network) → ip_network_cmp (network a) (network b) ≡ network_cmp a b

-- each call that makes a network or converts a mask does what that of the address's own family does
pub record MakesInItsFamily (w : ℕ) (network : Network → IpNetwork) (address : ℕ → IpAddr) : Type 0 where
  pub width : (a : ℕ) → width_of (address a) ≡ w
  pub made : (a p : ℕ) → made_of (address a) p ≡ network (record { address = a; prefix = p })
  pub makes : (a p : ℕ) (result : Result IpNetwork IpNetworkError) → Makes (address a) p result
      ↔ MatchResult result (λ n. (n ≡ network (record { address = a; prefix = p })) × (p ≤ w))
      (λ fault. (fault ≡ InvalidPrefix) × (w < p))
  pub is_mask : (mask p : ℕ) → IsIpMask (address mask) p ↔ ((p ≤ w) × (mask ≡ mask_of w p))
  pub converts : (mask : ℕ) (result : Result ℕ IpNetworkError)
      → GivesMaskPrefix (address mask) result ↔ GivesPrefixOfMask w mask result

-- the texts of a network are those of its own family: `Names` says which name it, and `canonical` prints its address
pub record ReadsInItsFamily (network : Network → IpNetwork) (Names : List ℕ → Network → Type 0)
    (canonical : ℕ → List ℕ) : Type 0 where
  pub names : (text : List ℕ) (n : Network) → NamesIpNetwork text (network n) ↔ Names text n
  pub printed : (n : Network) → ip_network_text (network n) ≡ network_text canonical n

-- making a network with a mask is making it with the mask's prefix length
abbrev pub MaskedIsMade : Type 0
MaskedIsMade = (ip mask : IpAddr) (p : ℕ) (result : Result IpNetwork IpNetworkError) → IsIpMask mask p
    → MakesWithMask ip mask result ↔ Makes ip p result

-- making a network with an address that is not a mask is refused
abbrev pub NoMaskIsRefused : Type 0
NoMaskIsRefused = (ip mask : IpAddr) (result : Result IpNetwork IpNetworkError) → ((p : ℕ) → ¬ (IsIpMask mask p))
    → MakesWithMask ip mask result ↔ (result ≡ Err InvalidPrefix)

-- a network converts to a network of its own family, and the result is the network itself; it does not convert to the
-- other family. `own` and `other` convert the networks of the two families to those of either family
pub record TakesItsFamily (own other : Network → IpNetwork) (Is : IpNetwork → Type 0)
    (Takes : IpNetwork → Result Network WrongFamily → Type 0) : Type 0 where
  pub is_own : (n : Network) → Is (own n)
  pub is_no_other : (n : Network) → ¬ (Is (other n))
  pub takes_own : (n : Network) (result : Result Network WrongFamily) → Takes (own n) result ↔ (result ≡ Ok n)
  pub takes_no_other : (n : Network) (result : Result Network WrongFamily) → Takes (other n) result ↔ IsErr result

-- the list of members contains exactly the addresses of the set
abbrev pub IpMembersAreListed : Type 0
IpMembersAreListed = (n : IpNetwork) (x : IpAddr) → IsIpNetwork n → Contains (ip_members n) x ↔ IpMember n x

-- the list of members is in ascending order, with each member once
abbrev pub IpMembersAscend : Type 0
IpMembersAscend = (n : IpNetwork) → IsIpNetwork n → AllPairs IsAddrBefore (ip_members n)
