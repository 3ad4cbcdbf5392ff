-- The list of members of a network of either family contains exactly the addresses of its set, in ascending order.
use Rattle.ipnetwork.proofs.Words.{◌≡◌, ℕ, suc, zero, ◌<◌, List, [], ◌∷◌, length, get_or, ap, sym, subst, arith, map, Contains, AllPairs, get_or-map, length-map, AllPairs-from_increasing, IsAddrBefore, IpAddr, members, MembersLaw, V4, V6, IpMembersAreListed, IpMembersAscend}
use Rattle.ipnetwork_addr.specs.declared.ip.IpAddr.TheVariants as addresses

-- the images of a list's elements are elements of the mapped list
pub image_listed : {A B : Type 0} (f : A → B) (x : A) (xs : List A) → Contains xs x → Contains (map f xs) (f x)
image_listed f x [] (k, below, at) = absurd (omega arith)
image_listed f x (y ∷ ys) (zero, below, at) = (0, omega arith, ap f at)
image_listed f x (y ∷ ys) (suc k, below, at) =
    let (j, within, is) = image_listed f x ys (k, omega arith, at) in (suc j, omega arith, is)

-- if different elements have different images, only elements of the list have their images in the mapped list
listed_back : {A B : Type 0} (f : A → B) → ((x y : A) → f x ≡ f y → x ≡ y) → (x : A) (xs : List A)
    → Contains (map f xs) (f x) → Contains xs x
listed_back f one x [] (k, below, at) = absurd (omega arith)
listed_back f one x (y ∷ ys) (zero, below, at) = (0, omega arith, one y x at)
listed_back f one x (y ∷ ys) (suc k, below, at) =
    let (j, within, is) = listed_back f one x ys (k, omega arith, at) in (suc j, omega arith, is)

none_listed : {A B : Type 0} (f : A → B) (z : B) → ((x : A) → f x ≡ z → ⊥) → (xs : List A) → Contains (map f xs) z → ⊥
none_listed f z none [] (k, below, at) = omega arith
none_listed f z none (y ∷ ys) (zero, below, at) = none y at
none_listed f z none (y ∷ ys) (suc k, below, at) = none_listed f z none ys (k, omega arith, at)

-- the list contains exactly the members
pub listed_members : MembersLaw → IpMembersAreListed
listed_members law (V4 n) (addresses.V4 x) h = (
  (λ c. (law 32 n h).each x (listed_back addresses.V4 (λ y z e. cc) x (members 32 n) c)),
  (λ m. image_listed addresses.V4 x (members 32 n) ((law 32 n h).all x m)),
)
listed_members law (V4 n) (addresses.V6 x) h =
    ((λ c. none_listed addresses.V4 (addresses.V6 x) (λ y e. cc) (members 32 n) c), (λ m. absurd m))
listed_members law (V6 n) (addresses.V4 x) h =
    ((λ c. none_listed addresses.V6 (addresses.V4 x) (λ y e. cc) (members 128 n) c), (λ m. absurd m))
listed_members law (V6 n) (addresses.V6 x) h = (
  (λ c. (law 128 n h).each x (listed_back addresses.V6 (λ y z e. cc) x (members 128 n) c)),
  (λ m. image_listed addresses.V6 x (members 128 n) ((law 128 n h).all x m)),
)

-- if numbers ascend, so do their addresses
images_ascend : (address : ℕ → IpAddr) (xs : List ℕ) → ((x y : ℕ) → x < y → IsAddrBefore (address x) (address y))
    → AllPairs (λ x y. x < y) xs
    → AllPairs IsAddrBefore (map address xs)
images_ascend address xs before pairs i j d l m =
    let size = length-map xs address in
    let within : j < length xs = omega arith in
    subst (λ (y : IpAddr). IsAddrBefore (get_or (map address xs) i d) y) (sym (get_or-map address xs j 0 d within))
    (subst (λ (x : IpAddr). IsAddrBefore x (address (get_or xs j 0))) (sym (get_or-map address xs i 0 d (omega arith)))
    (before (get_or xs i 0) (get_or xs j 0) (pairs i j 0 l within)))

pub members_ascend : MembersLaw → IpMembersAscend
members_ascend law (V4 n) h = images_ascend addresses.V4 (members 32 n) (λ x y l. l)
    (AllPairs-from_increasing (members 32 n) (law 32 n h).ascending)
members_ascend law (V6 n) h = images_ascend addresses.V6 (members 128 n) (λ x y l. l)
    (AllPairs-from_increasing (members 128 n) (law 128 n h).ascending)
