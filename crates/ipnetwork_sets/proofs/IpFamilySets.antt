-- The operations on lists of networks of either family, family by family.
use Rattle.ipnetwork_sets.proofs.Words.{◌≡◌, ◌↔◌, ℕ, ◌⊎◌, inl, inr, ⊎_elim, sym, subst, List, filter_map, IpAddr, Network, IpNetwork, as_v4, as_v6, IsLeastList, HasCount, InBoth, InFirstAlone, InComplement, InEither, IsWithin, AreDisjoint, v4_then_v6, IsIpLeastList, InIpBoth, InIpFirstAlone, InIpComplement, InIpEither, IsIpWithin, AreIpDisjoint, through}
use Rattle.ipnetwork_addr.specs.declared.ip.IpAddr.TheVariants as addresses
use Rattle.ipnetwork_sets.proofs.IpFamilies.{in_v4, in_v6, put_together, v4_part, v6_part}

-- ---- facts that hold together

pub same : {P : Type 0} → P ↔ P
same = ((λ m. m), (λ m. m))

pub and_iff : {P Q R S : Type 0} → P ↔ Q → R ↔ S → (P × R) ↔ (Q × S)
and_iff p r = ((λ m. (p.0 m.0, r.0 m.1)), (λ m. (p.1 m.0, r.1 m.1)))

pub or_iff : {P Q R S : Type 0} → P ↔ Q → R ↔ S → (P ⊎ R) ↔ (Q ⊎ S)
or_iff {P} {Q} {R} {S} p r = (
  (λ m. ⊎_elim (λ (h : P). inl (p.0 h)) (λ (h : R). inr (r.0 h)) m),
  (λ m. ⊎_elim (λ (h : Q). inl (p.1 h)) (λ (h : S). inr (r.1 h)) m),
)

pub not_iff : {P Q : Type 0} → P ↔ Q → (¬ P) ↔ (¬ Q)
not_iff p = ((λ n q. n (p.1 q)), (λ n q. n (p.0 q)))

-- ---- the operations

-- an operation on two sets of one family, and the same on sets of either family
pub record IsOperation (F : ℕ → List Network → List Network → ℕ → Type 0) (G : List IpNetwork → List IpNetwork → IpAddr
    → Type 0) : Type 0 where
  pub v4 : (a b : List IpNetwork) (x : ℕ) → F 32 (filter_map as_v4 a) (filter_map as_v4 b) x ↔ G a b (addresses.V4 x)
  pub v6 : (a b : List IpNetwork) (x : ℕ) → F 128 (filter_map as_v6 a) (filter_map as_v6 b) x ↔ G a b (addresses.V6 x)

pub both : IsOperation InBoth InIpBoth
both = record { v4 = λ a b x. and_iff (in_v4 a x) (in_v4 b x); v6 = λ a b x. and_iff (in_v6 a x) (in_v6 b x) }

pub alone : IsOperation InFirstAlone InIpFirstAlone
alone = record
    { v4 = λ a b x. and_iff (in_v4 a x) (not_iff (in_v4 b x)); v6 = λ a b x. and_iff (in_v6 a x) (not_iff (in_v6 b x)) }

pub rest : IsOperation (λ w a _. InComplement w a) (λ a _. InIpComplement a)
rest = record { v4 = λ a b x. and_iff same (not_iff (in_v4 a x)); v6 = λ a b x. and_iff same (not_iff (in_v6 a x)) }

pub either : IsOperation InEither InIpEither
either = record { v4 = λ a b x. or_iff (in_v4 a x) (in_v4 b x); v6 = λ a b x. or_iff (in_v6 a x) (in_v6 b x) }

module _ {F : ℕ → List Network → List Network → ℕ → Type 0} {G : List IpNetwork → List IpNetwork → IpAddr → Type 0}
    (op : IsOperation F G) where
  -- the result of an operation is its results for each family, put together
  pub least_of_families : (a b : List IpNetwork) (a4 b4 a6 b6 r4 r6 : List Network) (r : List IpNetwork)
      → a4 ≡ filter_map as_v4 a → b4 ≡ filter_map as_v4 b → a6 ≡ filter_map as_v6 a → b6 ≡ filter_map as_v6 b
      → IsLeastList 32 (F 32 a4 b4) r4 → IsLeastList 128 (F 128 a6 b6) r6 → r ≡ v4_then_v6 r4 r6
      → IsIpLeastList (G a b) r
  least_of_families a b a4 b4 a6 b6 r4 r6 r ea4 eb4 ea6 eb6 h k e =
      subst (IsIpLeastList (G a b)) (sym e)
      (put_together (G a b) (F 32 (filter_map as_v4 a) (filter_map as_v4 b))
      (F 128 (filter_map as_v6 a) (filter_map as_v6 b)) r4 r6 (op.v4 a b) (op.v6 a b)
      (rw (ea4, eb4) at h) (rw (ea6, eb6) at k))

  -- the blocks of each family in the result of an operation are the result for that family
  pub parts : (a b r : List IpNetwork) → IsIpLeastList (G a b) r
      → IsLeastList 32 (F 32 (filter_map as_v4 a) (filter_map as_v4 b)) (filter_map as_v4 r)
      × IsLeastList 128 (F 128 (filter_map as_v6 a) (filter_map as_v6 b)) (filter_map as_v6 r)
  parts a b r h = (
    v4_part (G a b) (F 32 (filter_map as_v4 a) (filter_map as_v4 b)) r (op.v4 a b) h,
    v6_part (G a b) (F 128 (filter_map as_v6 a) (filter_map as_v6 b)) r (op.v6 a b) h,
  )

-- ---- queries on two sets

-- a query on two sets of either family holds exactly if it holds for each family
pub record IsQuestion (F : ℕ → List Network → List Network → Type 0) (Q : List IpNetwork → List IpNetwork
    → Type 0) : Type 0 where
  pub by_family : (a b : List IpNetwork)
      → (F 32 (filter_map as_v4 a) (filter_map as_v4 b) × F 128 (filter_map as_v6 a) (filter_map as_v6 b)) ↔ Q a b

within_by_family : (a b : List IpNetwork) → (IsWithin 32 (filter_map as_v4 a) (filter_map as_v4 b)
    × IsWithin 128 (filter_map as_v6 a) (filter_map as_v6 b)) ↔ IsIpWithin a b
within_by_family a b = (
  (λ h. go h.0 h.1),
  (λ h. (
    (λ x c. (in_v4 b x).1 (h (addresses.V4 x) ((in_v4 a x).0 c))),
    (λ x c. (in_v6 b x).1 (h (addresses.V6 x) ((in_v6 a x).0 c))),
  )),
)
  where
    go : IsWithin 32 (filter_map as_v4 a) (filter_map as_v4 b) → IsWithin 128 (filter_map as_v6 a) (filter_map as_v6 b)
        → IsIpWithin a b
    go h k (addresses.V4 x) c = (in_v4 b x).0 (h x ((in_v4 a x).1 c))
    go h k (addresses.V6 x) c = (in_v6 b x).0 (k x ((in_v6 a x).1 c))

pub within : IsQuestion IsWithin IsIpWithin
within = record { by_family = within_by_family }

disjoint_by_family : (a b : List IpNetwork)
    → (AreDisjoint 32 (filter_map as_v4 a) (filter_map as_v4 b)
    × AreDisjoint 128 (filter_map as_v6 a) (filter_map as_v6 b)) ↔ AreIpDisjoint a b
disjoint_by_family a b = (
  (λ h. go h.0 h.1),
  (λ h. ((λ x c. h (addresses.V4 x) ((both.v4 a b x).0 c)), (λ x c. h (addresses.V6 x) ((both.v6 a b x).0 c)))),
)
  where
    go : AreDisjoint 32 (filter_map as_v4 a) (filter_map as_v4 b)
        → AreDisjoint 128 (filter_map as_v6 a) (filter_map as_v6 b) → AreIpDisjoint a b
    go h k (addresses.V4 x) c = h x ((both.v4 a b x).1 c)
    go h k (addresses.V6 x) c = k x ((both.v6 a b x).1 c)

pub disjoint : IsQuestion AreDisjoint AreIpDisjoint
disjoint = record { by_family = disjoint_by_family }

-- ---- counts

pub count_of_same : (S T : ℕ → Type 0) (n : ℕ) → ((x : ℕ) → S x ↔ T x) → HasCount S n → HasCount T n
count_of_same S T n same h = record {
  addresses = h.addresses;
  ascending = h.ascending;
  exactly = λ x. through (h.exactly x) (same x);
  count = h.count;
}
