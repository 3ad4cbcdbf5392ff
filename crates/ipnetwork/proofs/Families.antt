-- The sets of networks of either family, from those of each family.
use Rattle.ipnetwork.proofs.Words.{◌≡◌, ℕ, Bool, false, IsTrue, List, refl, IpAddr, Network, IsNetwork, Member, Subnet, Overlap, is_member, is_subnet, IpNetwork, V4, V6, NamesV4Network, NamesV6Network, NamesIpNetwork, IpMember, IpSubnet, IpOverlap, IsIpNetwork, address_of, is_ip_member, is_ip_subnet}
use Rattle.std.specs.Prelude.{◌↔◌}
use Rattle.ipnetwork_addr.specs.declared.ip.IpAddr.TheVariants as addresses

no_true : IsTrue false → ⊥
no_true t = cc

-- the address of a network is a member
pub address_is_member : (n : IpNetwork) → IsIpNetwork n → IpMember n (address_of n)
address_is_member (V4 n) h = (h.address_fits, refl)
address_is_member (V6 n) h = (h.address_fits, refl)

-- within a family, subnets are those of the family
pub subnet_v4 : (a b : Network) → Subnet 32 a b → IpSubnet (V4 a) (V4 b)
subnet_v4 a b inside (addresses.V4 x) h = inside x h
subnet_v4 a b inside (addresses.V6 x) h = h

pub subnet_v6 : (a b : Network) → Subnet 128 a b → IpSubnet (V6 a) (V6 b)
subnet_v6 a b inside (addresses.V4 x) h = h
subnet_v6 a b inside (addresses.V6 x) h = inside x h

-- no network is a subnet of one of the other family
pub no_subnet_v4 : (a b : Network) → IsIpNetwork (V4 a) → ¬ (IpSubnet (V4 a) (V6 b))
no_subnet_v4 a b h inside = inside (addresses.V4 a.address) (address_is_member (V4 a) h)

pub no_subnet_v6 : (a b : Network) → IsIpNetwork (V6 a) → ¬ (IpSubnet (V6 a) (V4 b))
no_subnet_v6 a b h inside = inside (addresses.V6 a.address) (address_is_member (V6 a) h)

-- overlaps are those of the family, and networks of different families do not overlap
pub overlap_v4 : (a b : Network) → IpOverlap (V4 a) (V4 b) → Overlap 32 a b
overlap_v4 a b (addresses.V4 x, h, k) = (x, h, k)
overlap_v4 a b (addresses.V6 x, h, k) = absurd h

pub overlap_v6 : (a b : Network) → IpOverlap (V6 a) (V6 b) → Overlap 128 a b
overlap_v6 a b (addresses.V4 x, h, k) = absurd h
overlap_v6 a b (addresses.V6 x, h, k) = (x, h, k)

pub no_overlap_v4 : (a b : Network) → ¬ (IpOverlap (V4 a) (V6 b))
no_overlap_v4 a b (addresses.V4 x, h, k) = k
no_overlap_v4 a b (addresses.V6 x, h, k) = h

-- the results of each family's tests are those for either family
pub subnet_answer_v4 : (self other : IpNetwork) (a b : Network) (r : Bool) → self ≡ V4 a → other ≡ V4 b
    → (IsTrue r ↔ Subnet 32 a b) → (IsTrue r ↔ IpSubnet self other)
subnet_answer_v4 self other a b r is_a is_b h =
    rw (is_a, is_b) ((λ t. subnet_v4 a b (h.0 t)), (λ inside. h.1 (λ x member. inside (addresses.V4 x) member)))

pub subnet_answer_v6 : (self other : IpNetwork) (a b : Network) (r : Bool) → self ≡ V6 a → other ≡ V6 b
    → (IsTrue r ↔ Subnet 128 a b) → (IsTrue r ↔ IpSubnet self other)
subnet_answer_v6 self other a b r is_a is_b h =
    rw (is_a, is_b) ((λ t. subnet_v6 a b (h.0 t)), (λ inside. h.1 (λ x member. inside (addresses.V6 x) member)))

pub subnet_refused_v4 : (self other : IpNetwork) (a b : Network) → self ≡ V4 a → other ≡ V6 b → IsIpNetwork self
    → (IsTrue false ↔ IpSubnet self other)
subnet_refused_v4 self other a b is_a is_b h = let k = rw is_a at h in
    rw (is_a, is_b) ((λ t. absurd (no_true t)), (λ inside. absurd (no_subnet_v4 a b k inside)))

pub subnet_refused_v6 : (self other : IpNetwork) (a b : Network) → self ≡ V6 a → other ≡ V4 b → IsIpNetwork self
    → (IsTrue false ↔ IpSubnet self other)
subnet_refused_v6 self other a b is_a is_b h = let k = rw is_a at h in
    rw (is_a, is_b) ((λ t. absurd (no_true t)), (λ inside. absurd (no_subnet_v6 a b k inside)))

pub overlap_answer_v4 : (self other : IpNetwork) (a b : Network) (r : Bool) → self ≡ V4 a → other ≡ V4 b
    → (IsTrue r ↔ Overlap 32 a b) → (IsTrue r ↔ IpOverlap self other)
overlap_answer_v4 self other a b r is_a is_b h =
    rw (is_a, is_b) ((λ t. let o = h.0 t in (addresses.V4 o.0, o.1, o.2)), (λ o. h.1 (overlap_v4 a b o)))

pub overlap_answer_v6 : (self other : IpNetwork) (a b : Network) (r : Bool) → self ≡ V6 a → other ≡ V6 b
    → (IsTrue r ↔ Overlap 128 a b) → (IsTrue r ↔ IpOverlap self other)
overlap_answer_v6 self other a b r is_a is_b h =
    rw (is_a, is_b) ((λ t. let o = h.0 t in (addresses.V6 o.0, o.1, o.2)), (λ o. h.1 (overlap_v6 a b o)))

-- a text that names a network in neither family names none
pub names_none : (text : List ℕ) → ((n : Network) → ¬ (NamesV4Network text n))
    → ((n : Network) → ¬ (NamesV6Network text n)) → (n : IpNetwork) → ¬ (NamesIpNetwork text n)
names_none text no_v4 no_v6 (V4 n) h = no_v4 n h
names_none text no_v4 no_v6 (V6 n) h = no_v6 n h

-- the tests for either family, from those of each family
pub member_computed : ((w : ℕ) (n : Network) (x : ℕ) → IsTrue (is_member w n x) ↔ Member w n x)
    → (n : IpNetwork) (x : IpAddr) → IsTrue (is_ip_member n x) ↔ IpMember n x
member_computed test (V4 n) (addresses.V4 x) = test 32 n x
member_computed test (V4 n) (addresses.V6 x) = (λ t. no_true t, λ m. absurd m)
member_computed test (V6 n) (addresses.V4 x) = (λ t. no_true t, λ m. absurd m)
member_computed test (V6 n) (addresses.V6 x) = test 128 n x

pub subnet_computed : ((w : ℕ) (a b : Network) → IsNetwork w a → IsNetwork w b
    → IsTrue (is_subnet w a b) ↔ Subnet w a b)
    → (a b : IpNetwork) → IsIpNetwork a → IsIpNetwork b → IsTrue (is_ip_subnet a b) ↔ IpSubnet a b
subnet_computed test (V4 a) (V4 b) h k = subnet_answer_v4 (V4 a) (V4 b) a b (is_subnet 32 a b) refl refl
    (test 32 a b h k)
subnet_computed test (V4 a) (V6 b) h k = subnet_refused_v4 (V4 a) (V6 b) a b refl refl h
subnet_computed test (V6 a) (V4 b) h k = subnet_refused_v6 (V6 a) (V4 b) a b refl refl h
subnet_computed test (V6 a) (V6 b) h k = subnet_answer_v6 (V6 a) (V6 b) a b (is_subnet 128 a b) refl refl
    (test 128 a b h k)
