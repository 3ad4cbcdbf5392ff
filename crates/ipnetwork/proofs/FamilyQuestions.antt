-- Each question about a network of either family is answered as in its own family.
use Rattle.ipnetwork.proofs.Words.{◌≡◌, ◌↔◌, ℕ, Result, Ok, Err, refl, canonical_v4, canonical_v6, NamesV4Network, NamesV6Network, MaskIsConverted, GivesPrefixOfMask, IpNetworkError, IsIpNetwork, GivesMaskPrefix, ip_mask_of, prefix_of, IsV4, IsV6, TakesV4, TakesV6, AsksItsFamily, MakesInItsFamily, ReadsInItsFamily, TakesItsFamily, IpNetwork, V4, V6}
use Rattle.ipnetwork_addr.specs.declared.ip.IpAddr.TheVariants as addresses
use Rattle.ipnetwork.specs.declared.size.NetworkSize.TheVariants as sizes
use Rattle.ipnetwork.proofs.Families.{subnet_v4, subnet_v6, overlap_v4, overlap_v6}

same : {A : Type 0} → A ↔ A
same = ((λ h. h), (λ h. h))

pub v4_asks : AsksItsFamily 32 V4 addresses.V4 sizes.V4
v4_asks = record {
  network_fits = λ n. same;
  its_address = λ n. refl;
  its_prefix = λ n. refl;
  its_mask = λ n. refl;
  its_low = λ n. refl;
  its_high = λ n. refl;
  its_size = λ n. refl;
  its_members = λ n. refl;
  member = λ n x. same;
  subnet = λ a b. ((λ inside x m. inside (addresses.V4 x) m), subnet_v4 a b);
  overlap = λ a b. (overlap_v4 a b, (λ o. (addresses.V4 o.0, o.1, o.2)));
  before = λ a b. same;
  at_most = λ a b. same;
  compare = λ a b. refl;
}

pub v6_asks : AsksItsFamily 128 V6 addresses.V6 sizes.V6
v6_asks = record {
  network_fits = λ n. same;
  its_address = λ n. refl;
  its_prefix = λ n. refl;
  its_mask = λ n. refl;
  its_low = λ n. refl;
  its_high = λ n. refl;
  its_size = λ n. refl;
  its_members = λ n. refl;
  member = λ n x. same;
  subnet = λ a b. ((λ inside x m. inside (addresses.V6 x) m), subnet_v6 a b);
  overlap = λ a b. (overlap_v6 a b, (λ o. (addresses.V6 o.0, o.1, o.2)));
  before = λ a b. same;
  at_most = λ a b. same;
  compare = λ a b. refl;
}

-- ---- making networks, and masks

v4_converts : (mask : ℕ) (result : Result ℕ IpNetworkError) → GivesMaskPrefix (addresses.V4 mask) result
    ↔ GivesPrefixOfMask 32 mask result
v4_converts mask (Ok p) = same
v4_converts mask (Err fault) = ((λ h. (h.0, λ p fits is. h.1 p (fits, is))), (λ h. (h.0, λ p m. h.1 p m.0 m.1)))

v6_converts : (mask : ℕ) (result : Result ℕ IpNetworkError) → GivesMaskPrefix (addresses.V6 mask) result
    ↔ GivesPrefixOfMask 128 mask result
v6_converts mask (Ok p) = same
v6_converts mask (Err fault) = ((λ h. (h.0, λ p fits is. h.1 p (fits, is))), (λ h. (h.0, λ p m. h.1 p m.0 m.1)))

pub v4_makes : MakesInItsFamily 32 V4 addresses.V4
v4_makes =
    record {
      width = λ a. refl;
      made = λ a p. refl;
      makes = λ a p result. same;
      is_mask = λ mask p. same;
      converts =
          v4_converts;
    }

pub v6_makes : MakesInItsFamily 128 V6 addresses.V6
v6_makes =
    record {
      width = λ a. refl;
      made = λ a p. refl;
      makes = λ a p result. same;
      is_mask = λ mask p. same;
      converts =
          v6_converts;
    }

-- the mask of a network converts to its prefix length
pub mask_converted : MaskIsConverted → (n : IpNetwork) (result : Result ℕ IpNetworkError) → IsIpNetwork n
    → GivesMaskPrefix (ip_mask_of n) result → result ≡ Ok (prefix_of n)
mask_converted law (V4 n) result h given = (law 32 n.prefix result h.prefix_fits).0 ((v4_converts _ result).0 given)
mask_converted law (V6 n) result h given = (law 128 n.prefix result h.prefix_fits).0 ((v6_converts _ result).0 given)

-- ---- texts, and networks of one family

pub v4_reads : ReadsInItsFamily V4 NamesV4Network canonical_v4
v4_reads = record { names = λ text n. same; printed = λ n. refl }

pub v6_reads : ReadsInItsFamily V6 NamesV6Network canonical_v6
v6_reads = record { names = λ text n. same; printed = λ n. refl }

pub v4_takes : TakesItsFamily V4 V6 IsV4 TakesV4
v4_takes =
    record { is_own = λ n. tt; is_no_other = λ n h. h; takes_own = λ n result. same; takes_no_other = λ n result. same }

pub v6_takes : TakesItsFamily V6 V4 IsV6 TakesV6
v6_takes =
    record { is_own = λ n. tt; is_no_other = λ n h. h; takes_own = λ n result. same; takes_no_other = λ n result. same }
