-- What follows from the laws, and would not follow from weaker ones, for any network, even if its address or prefix
-- length exceeds the width.
use Rattle.ipnetwork.proofs.Words.{◌≡◌, ◌↔◌, ℕ, ◌<◌, ◌≤◌, List, refl, arith, Ok, Err, Result, Contains, map, IsErr, MatchResult, AllPairs, IsAddrBefore, IpAddr, GivesPrefixOfMask, Network, IsNetwork, Member, low, high, mask_of, size_of, members, Subnet, Overlap, IsNetworkBefore, IsNetworkAtMost, network_cmp, network_text, IpNetworkError, InvalidPrefix, IsIpNetwork, address_of, prefix_of, ip_mask_of, ip_low, ip_high, ip_size, ip_members, IpMember, IpSubnet, IpOverlap, width_of, made_of, Makes, IsIpMask, GivesMaskPrefix, MakesWithMask, IsIpBefore, IsIpAtMost, ip_network_cmp, AreApart, NamesIpNetwork, ip_network_text, AsksItsFamily, MakesInItsFamily, ReadsInItsFamily, MaskedIsMade, NoMaskIsRefused, TakesItsFamily, IpMembersAreListed, IpMembersAscend, WrongFamily, IpNetwork, V4, V6, NetworkSize}
use Rattle.ipnetwork_addr.specs.declared.ip.IpAddr.TheVariants as addresses

module _ (w : ℕ) (network other : Network → IpNetwork) (address : ℕ → IpAddr) (size : ℕ → NetworkSize)
    (n m : Network) where
  -- the properties of a network
  pub asks : AsksItsFamily w network address size
      → (IsIpNetwork (network n) ↔ IsNetwork w n) × (address_of (network n) ≡ address n.address)
      × (prefix_of (network n) ≡ n.prefix)
      × (ip_mask_of (network n) ≡ address (mask_of w n.prefix)) × (ip_low (network n) ≡ address (low w n))
      × (ip_high (network n) ≡ address (high w n))
      × (ip_size (network n) ≡ size (size_of w n)) × (ip_members (network n) ≡ map address (members w n))
  asks law = (
    law.network_fits n,
    law.its_address n,
    law.its_prefix n,
    law.its_mask n,
    law.its_low n,
    law.its_high n,
    law.its_size n,
    law.its_members n,
  )

  -- how two networks compare
  pub compares : AsksItsFamily w network address size
      → ((x : ℕ) → IpMember (network n) (address x) ↔ Member w n x) × (IpSubnet (network n) (network m) ↔ Subnet w n m)
      × (IpOverlap (network n) (network m) ↔ Overlap w n m) × (IsIpBefore (network n) (network m) ↔ IsNetworkBefore n m)
      × (IsIpAtMost (network n) (network m) ↔ IsNetworkAtMost n m)
      × (ip_network_cmp (network n) (network m) ≡ network_cmp n m)
  compares law = (law.member n, law.subnet n m, law.overlap n m, law.before n m, law.at_most n m, law.compare n m)

  pub makes : MakesInItsFamily w network address → (width_of (address n.address) ≡ w)
      × (made_of (address n.address) n.prefix ≡ network n)
      × ((p : ℕ) → IsIpMask (address n.address) p ↔ ((p ≤ w) × (n.address ≡ mask_of w p)))
      × ((result : Result ℕ IpNetworkError) → GivesMaskPrefix (address n.address) result
      ↔ GivesPrefixOfMask w n.address result)
      × ((result : Result IpNetwork IpNetworkError) → Makes (address n.address) n.prefix result
      ↔ MatchResult result (λ made. (made ≡ network n) × (n.prefix ≤ w)) (λ fault. (fault ≡ InvalidPrefix)
      × (w < n.prefix)))
  makes law = (
    law.width n.address,
    law.made n.address n.prefix,
    law.is_mask n.address,
    law.converts n.address,
    law.makes n.address n.prefix,
  )

  pub reads : (Names : List ℕ → Network → Type 0) (canonical : ℕ → List ℕ) → ReadsInItsFamily network Names canonical
      → ((text : List ℕ) → NamesIpNetwork text (network n) ↔ Names text n)
      × (ip_network_text (network n) ≡ network_text canonical n)
  reads Names canonical law = ((λ text. law.names text n), law.printed n)

  pub takes : (Is : IpNetwork → Type 0) (Takes : IpNetwork → Result Network WrongFamily → Type 0)
      → TakesItsFamily network other Is Takes
      → Is (network n) × ¬ (Is (other n))
      × ((result : Result Network WrongFamily) → Takes (network n) result ↔ (result ≡ Ok n))
      × ((result : Result Network WrongFamily) → Takes (other n) result ↔ IsErr result)
  takes Is Takes law = (law.is_own n, law.is_no_other n, law.takes_own n, law.takes_no_other n)

-- networks of different families
pub apart : (a b : IpNetwork) → AreApart a b → ¬ (IpSubnet a b) × ¬ (IpSubnet b a) × ¬ (IpOverlap a b)
apart a b law = (law.not_inside, law.not_around, law.no_overlap)

-- ---- masks of the other family: for IPv4 ffff:ff00:: and ffff:ffff:8000:: of length 33; for IPv6 255.0.255.0, no mask

pub masked : MaskedIsMade → (result : Result IpNetwork IpNetworkError)
    → MakesWithMask (addresses.V4 167772161) (addresses.V6 340282346638528859811704183484516925440) result
    ↔ Makes (addresses.V4 167772161) 24 result
masked law result = law (addresses.V4 167772161) (addresses.V6 340282346638528859811704183484516925440) 24 result
    (omega arith, refl)

pub masked_past_the_width : MaskedIsMade → (result : Result IpNetwork IpNetworkError)
    → MakesWithMask (addresses.V4 1) (addresses.V6 340282366881324382206242438634996236288) result
    ↔ Makes (addresses.V4 1) 33 result
masked_past_the_width law result = law (addresses.V4 1) (addresses.V6 340282366881324382206242438634996236288) 33 result
    (omega arith, refl)

pub no_mask : NoMaskIsRefused → ((p : ℕ) → ¬ (IsIpMask (addresses.V4 4278255360) p))
    → (result : Result IpNetwork IpNetworkError)
    → MakesWithMask (addresses.V6 1) (addresses.V4 4278255360) result ↔ (result ≡ Err InvalidPrefix)
no_mask law none result = law (addresses.V6 1) (addresses.V4 4278255360) result none

-- ---- members: those of 0.0.0.7/30 are the four from 0.0.0.4 on, with no address of the other family

abbrev pub four : Network
four = record { address = 7; prefix = 30 }

four_fits : IsNetwork 32 four
four_fits = record { address_fits = omega arith; prefix_fits = omega arith }

pub last_is_listed : IpMembersAreListed → Contains (ip_members (V4 four)) (addresses.V4 7)
last_is_listed law = (law (V4 four) (addresses.V4 7) four_fits).1 (omega arith, refl)

pub no_other_is_listed : IpMembersAreListed → (x : IpAddr) → ¬ (IpMember (V4 four) x)
    → ¬ (Contains (ip_members (V4 four)) x)
no_other_is_listed law x out listed = out ((law (V4 four) x four_fits).0 listed)

pub members_ascend : IpMembersAscend → (n : Network) → IsNetwork 128 n → AllPairs IsAddrBefore (ip_members (V6 n))
members_ascend law n = law (V6 n)
