-- Lists of networks of either family, and the networks of each family in them.
use Rattle.ipnetwork_blocks.proofs.Words.{◌≡◌, ◌↔◌, ℕ, sym, refl, ap, subst, ◌∙◌, List, [], ◌∷◌, ◌++◌, map, Option, Some, Contains, filter_map, IpAddr, Network, IsNetwork, Member, IsIpNetwork, IpMember, IpNetwork, V4, V6, InUnion, LiesInUnion, as_v4, as_v6, InIpUnion, LiesInIpUnion}
use Rattle.ipnetwork_addr.specs.declared.ip.IpAddr.TheVariants as addresses
use Rattle.ipnetwork_blocks.proofs.AggregateIp.{given, gives}

pub through : {P Q R : Type 0} → P ↔ Q → Q ↔ R → P ↔ R
through p q = ((λ m. q.0 (p.0 m)), (λ m. p.1 (q.1 m)))

-- ---- the networks of each family in a list of both

pub v4_of_both : (v4 v6 : List Network) → filter_map as_v4 (map V4 v4 ++ map V6 v6) ≡ v4
v4_of_both [] [] = refl
v4_of_both [] (n ∷ v6) = v4_of_both [] v6
v4_of_both (n ∷ v4) v6 = ap (λ ns. n ∷ ns) (v4_of_both v4 v6)

pub v6_of_both : (v4 v6 : List Network) → filter_map as_v6 (map V4 v4 ++ map V6 v6) ≡ v6
v6_of_both [] [] = refl
v6_of_both [] (n ∷ v6) = ap (λ ns. n ∷ ns) (v6_of_both [] v6)
v6_of_both (n ∷ v4) v6 = v6_of_both v4 v6

-- the networks of each family in a concatenation of two lists, one for each family, are those two lists
pub v4_own : (r : List IpNetwork) (v4 v6 : List Network) → r ≡ map V4 v4 ++ map V6 v6 → v4 ≡ filter_map as_v4 r
v4_own r v4 v6 e = sym (ap (filter_map as_v4) e ∙ v4_of_both v4 v6)

pub v6_own : (r : List IpNetwork) (v4 v6 : List Network) → r ≡ map V4 v4 ++ map V6 v6 → v6 ≡ filter_map as_v6 r
v6_own r v4 v6 e = sym (ap (filter_map as_v6) e ∙ v6_of_both v4 v6)

-- ---- the addresses of each family

-- a family of w-bit addresses. `address` gives the address of either family with a given number, and `own` the networks
-- of the family
pub record IsFamily (w : ℕ) (own : IpNetwork → Option Network) (put : Network → IpNetwork) (address : ℕ
    → IpAddr) : Type 0 where
  pub kept : (y : IpNetwork) (n : Network) → own y ≡ Some n → y ≡ put n
  pub given_back : (n : Network) → own (put n) ≡ Some n
  pub fits : (n : Network) → IsIpNetwork (put n) → IsNetwork w n
  pub one : (y : IpNetwork) (x : ℕ) → IpMember y (address x) → (n : Network) × (own y ≡ Some n) × Member w n x
  pub member : (n : Network) (x : ℕ) → Member w n x → IpMember (put n) (address x)
  pub only : (n : Network) (x : IpAddr) → IpMember (put n) x → (y : ℕ) × (x ≡ address y) × Member w n y

v4_kept : (y : IpNetwork) (n : Network) → as_v4 y ≡ Some n → y ≡ V4 n
v4_kept (V4 m) n e = cc
v4_kept (V6 m) n e = cc

v4_one : (y : IpNetwork) (x : ℕ) → IpMember y (addresses.V4 x) → (n : Network) × (as_v4 y ≡ Some n) × Member 32 n x
v4_one (V4 n) x m = (n, refl, m)
v4_one (V6 n) x m = absurd m

v4_only : (n : Network) (x : IpAddr) → IpMember (V4 n) x → (y : ℕ) × (x ≡ addresses.V4 y) × Member 32 n y
v4_only n (addresses.V4 x) m = (x, refl, m)
v4_only n (addresses.V6 x) m = absurd m

pub v4_family : IsFamily 32 as_v4 V4 addresses.V4
v4_family = record
    { kept = v4_kept; given_back = λ n. refl; fits = λ n h. h; one = v4_one; member = λ n x m. m; only = v4_only }

v6_kept : (y : IpNetwork) (n : Network) → as_v6 y ≡ Some n → y ≡ V6 n
v6_kept (V4 m) n e = cc
v6_kept (V6 m) n e = cc

v6_one : (y : IpNetwork) (x : ℕ) → IpMember y (addresses.V6 x) → (n : Network) × (as_v6 y ≡ Some n) × Member 128 n x
v6_one (V4 n) x m = absurd m
v6_one (V6 n) x m = (n, refl, m)

v6_only : (n : Network) (x : IpAddr) → IpMember (V6 n) x → (y : ℕ) × (x ≡ addresses.V6 y) × Member 128 n y
v6_only n (addresses.V4 x) m = absurd m
v6_only n (addresses.V6 x) m = (x, refl, m)

pub v6_family : IsFamily 128 as_v6 V6 addresses.V6
v6_family = record
    { kept = v6_kept; given_back = λ n. refl; fits = λ n h. h; one = v6_one; member = λ n x m. m; only = v6_only }

module _ {w : ℕ} {own : IpNetwork → Option Network} {put : Network → IpNetwork} {address : ℕ → IpAddr}
    (family : IsFamily w own put address) where
  -- the networks of the family in a list are those that the list contains
  pub listed : (ns : List IpNetwork) (n : Network) → Contains (filter_map own ns) n ↔ Contains ns (put n)
  listed ns n = (
    (λ c. let g = given own ns n c in subst (λ (y : IpNetwork). Contains ns y) (family.kept g.0 n g.2) g.1),
    (λ c. gives own ns (put n) n c (family.given_back n)),
  )

  -- an address lies in the union exactly if it lies in the union of its family's networks
  pub in_family : (ns : List IpNetwork) (x : ℕ) → InUnion w (filter_map own ns) x ↔ InIpUnion ns (address x)
  in_family ns x = (
    (λ c. (put c.0, (listed ns c.0).0 c.1, family.member c.0 x c.2)),
    (λ c. let o = family.one c.0 x c.2 in (o.0, gives own ns c.0 o.0 c.1 o.1, o.2)),
  )

  -- a network of the family lies in the union exactly if it lies in the union of its family's networks
  pub lies_in_family : (ns : List IpNetwork) (n : Network) → LiesInUnion w n (filter_map own ns)
      ↔ LiesInIpUnion (put n) ns
  lies_in_family ns n = (
    (λ h x m. let o = family.only n x m in
        subst (λ (y : IpAddr). InIpUnion ns y) (sym o.1) ((in_family ns o.0).0 (h o.0 o.2))),
    (λ h x m. (in_family ns x).1 (h (address x) (family.member n x m))),
  )
