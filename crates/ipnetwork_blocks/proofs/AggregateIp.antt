-- Lists of networks of both families: the families are separated, and each is aggregated.
use Rattle.ipnetwork_blocks.proofs.Words.{◌≡◌, ◌≢◌, ℕ, suc, zero, ◌+◌, ◌-◌, ◌<◌, ◌≤◌, sym, refl, ap, subst, ◌∙◌, arith, ⊎_elim, List, [], ◌∷◌, ◌++◌, length, get_or, take, drop, map, Option, None, Some, All, AllWithin, Contains, SwappedAt, filter_map, cons_option, copy_within, IsPermutation, cases_lt, cases_eq, append-nil, length-append, take-append-drop, take-append-le, take-paste, All-take, filter_map-append, IsPermutation-sym, Contains-permutation, drop-append_seam, paste, IpNetwork, V4, V6, IsV4, IsV6, Network, InUnion, SameUnion, IsAggregate, as_v4, as_v6, IsIpAggregate, the_network}
use Rattle.ipnetwork_blocks.proofs.LeastLists.{least_of_same}

-- ---- the loop of `put_v4_first`

either_family : (x : IpNetwork) → ¬ (IsV4 x) → IsV6 x
either_family (V4 n) h = absurd (h tt)
either_family (V6 n) h = tt

-- one more IPv4 network, moved after those in front
pub one_first : (xs ys : List IpNetwork) (count next : ℕ) → count ≤ next → AllWithin IsV4 xs 0 count
    → AllWithin IsV6 xs count next
    → ((d : IpNetwork) → IsV4 (get_or xs next d)) → SwappedAt xs ys count next → AllWithin IsV4 ys 0 (count + 1)
    × AllWithin IsV6 ys (count + 1) (next + 1)
one_first xs ys count next le front back one swapped = (
  (λ k d l m. ⊎_elim
      (λ (same : k ≡ count). subst (λ (i : ℕ). IsV4 (get_or ys i d)) (sym same)
      (subst IsV4 (sym (swapped.0 d)) (one d)))
      (λ (other : k ≢ count). subst IsV4 (sym (swapped.2 k d other (omega arith))) (front k d l (omega arith)))
      (cases_eq k count)),
  (λ k d l m. ⊎_elim
      (λ (same : k ≡ next). subst (λ (i : ℕ). IsV6 (get_or ys i d)) (sym same)
      (subst IsV6 (sym (swapped.1 d)) (back count d (omega arith) (omega arith))))
      (λ (other : k ≢ next). subst IsV6 (sym (swapped.2 k d (omega arith) other))
      (back k d (omega arith) (omega arith)))
      (cases_eq k next)),
)

-- one more IPv6 network, left in its place
pub one_behind : (xs : List IpNetwork) (count next : ℕ) → AllWithin IsV6 xs count next
    → ((d : IpNetwork) → ¬ (IsV4 (get_or xs next d))) → AllWithin IsV6 xs count (next + 1)
one_behind xs count next back one k d l m =
    ⊎_elim
    (λ (before : k < next). back k d l before)
    (λ (at : next ≤ k). let e : k ≡ next = omega arith in
    subst (λ (i : ℕ). IsV6 (get_or xs i d)) (sym e) (either_family (get_or xs next d) (one d)))
    (cases_lt k next)

-- ---- the networks of one family

-- every network that h gives for a list comes from one of its elements
given_first : (h : IpNetwork → Option Network) (o : Option Network) (x : IpNetwork) (n : Network) (ms : List Network)
    (xs : List IpNetwork) → h x ≡ o
    → (Contains ms n → (y : IpNetwork) × Contains xs y × (h y ≡ Some n)) → Contains (cons_option o ms) n
    → (y : IpNetwork) × Contains (x ∷ xs) y × (h y ≡ Some n)
given_first h None x n ms xs e more c = let m = more c in (m.0, (suc m.1.0, omega (arith, m.1.1), m.1.2), m.2)
given_first h (Some m) x n ms xs e more (zero, l, is) = (x, (zero, omega arith, refl), e ∙ ap Some is)
given_first h (Some m) x n ms xs e more (suc i, l, is) = let r = more (i, omega arith, is) in
    (r.0, (suc r.1.0, omega (arith, r.1.1), r.1.2), r.2)

pub given : (h : IpNetwork → Option Network) (xs : List IpNetwork) (n : Network) → Contains (filter_map h xs) n
    → (y : IpNetwork) × Contains xs y × (h y ≡ Some n)
given h [] n c = absurd (let l = c.1 in omega arith)
given h (x ∷ xs) n c = given_first h (h x) x n (filter_map h xs) xs refl (given h xs n) c

-- a network that h gives for the rest of a list is also one that it gives for the whole list
kept_behind : (o : Option Network) (ms : List Network) (n : Network) → Contains ms n → Contains (cons_option o ms) n
kept_behind None ms n c = c
kept_behind (Some m) ms n c = (suc c.0, (let l = c.1 in omega arith), c.2)

pub gives : (h : IpNetwork → Option Network) (xs : List IpNetwork) (y : IpNetwork) (n : Network) → Contains xs y
    → h y ≡ Some n → Contains (filter_map h xs) n
gives h [] y n c e = absurd (let l = c.1 in omega arith)
gives h (x ∷ xs) y n (zero, l, is) e = subst (λ (o : Option Network). Contains (cons_option o (filter_map h xs)) n)
    (sym (ap h is ∙ e)) (zero, omega arith, refl)
gives h (x ∷ xs) y n (suc i, l, is) e = kept_behind (h x) (filter_map h xs) n (gives h xs y n (i, omega arith, is) e)

-- the union does not depend on the order of the elements
reordered : (h : IpNetwork → Option Network) (w : ℕ) (xs ys : List IpNetwork) → IsPermutation xs ys
    → SameUnion w (filter_map h xs) (filter_map h ys)
reordered h w xs ys p x = (one h w xs ys p x, one h w ys xs (IsPermutation-sym xs ys p) x)
  where
    one : (h : IpNetwork → Option Network) (w : ℕ) (xs ys : List IpNetwork) → IsPermutation xs ys → (x : ℕ)
        → InUnion w (filter_map h xs) x → InUnion w (filter_map h ys) x
    one h w xs ys p x c = let y = given h xs c.0 c.1 in
        (c.0, gives h ys y.0 c.0 (Contains-permutation xs ys y.0 p y.1) y.2, c.2)

-- if h gives a network for every element of a list, and if it gives none for any element
gives_all : (h : IpNetwork → Option Network) (f : IpNetwork → Network) (Is : IpNetwork → Type 0)
    → ((x : IpNetwork) → Is x → h x ≡ Some (f x))
    → (xs : List IpNetwork) → All Is xs → filter_map h xs ≡ map f xs
gives_all h f Is e [] all = refl
gives_all h f Is e (x ∷ xs) all =
    ap (λ o. cons_option o (filter_map h xs)) (e x (all zero x (omega arith)))
    ∙ ap (λ ns. f x ∷ ns) (gives_all h f Is e xs (λ k d l. all (suc k) d (omega arith)))

gives_none : (h : IpNetwork → Option Network) (Is : IpNetwork → Type 0) → ((x : IpNetwork) → Is x → h x ≡ None)
    → (xs : List IpNetwork) → All Is xs → filter_map h xs ≡ []
gives_none h Is e [] all = refl
gives_none h Is e (x ∷ xs) all =
    ap (λ o. cons_option o (filter_map h xs)) (e x (all zero x (omega arith)))
    ∙ gives_none h Is e xs (λ k d l. all (suc k) d (omega arith))

-- values that are determined by their networks
known : (f : IpNetwork → Network) (c : Network → IpNetwork) (Is : IpNetwork → Type 0)
    → ((x : IpNetwork) → Is x → x ≡ c (f x)) → (xs : List IpNetwork) → All Is xs → xs ≡ map c (map f xs)
known f c Is e [] all = refl
known f c Is e (x ∷ xs) all =
    ap (λ y. y ∷ xs) (e x (all zero x (omega arith)))
    ∙ ap (λ ys. c (f x) ∷ ys) (known f c Is e xs (λ k d l. all (suc k) d (omega arith)))

v4_known : (x : IpNetwork) → IsV4 x → x ≡ V4 (the_network x)
v4_known (V4 n) h = refl
v4_known (V6 n) h = absurd h

v6_known : (x : IpNetwork) → IsV6 x → x ≡ V6 (the_network x)
v6_known (V4 n) h = absurd h
v6_known (V6 n) h = refl

v4_given : (x : IpNetwork) → IsV4 x → as_v4 x ≡ Some (the_network x)
v4_given (V4 n) h = refl
v4_given (V6 n) h = absurd h

v6_given : (x : IpNetwork) → IsV6 x → as_v6 x ≡ Some (the_network x)
v6_given (V4 n) h = absurd h
v6_given (V6 n) h = refl

v4_not_given : (x : IpNetwork) → IsV6 x → as_v4 x ≡ None
v4_not_given (V4 n) h = absurd h
v4_not_given (V6 n) h = refl

v6_not_given : (x : IpNetwork) → IsV4 x → as_v6 x ≡ None
v6_not_given (V4 n) h = refl
v6_not_given (V6 n) h = absurd h

-- ---- the aggregate of either family

-- the aggregate of the whole list, if its networks of one family are those of a part
of_part : (h : IpNetwork → Option Network) (w : ℕ) (old parted part : List IpNetwork) (r : List Network)
    → IsPermutation old parted
    → filter_map h parted ≡ map the_network part → IsAggregate w (map the_network part) r
    → IsAggregate w (filter_map h old) r
of_part h w old parted part r p e a =
    least_of_same w (InUnion w (map the_network part)) (InUnion w (filter_map h old)) r
    (subst (λ (ns : List Network). SameUnion w ns (filter_map h old)) e
    (reordered h w parted old (IsPermutation-sym old parted p))) a

-- networks of one family, and the values kept in their place: the first `count` of these are the aggregate
pub record IsAggregated (w : ℕ) (IsOfFamily : IpNetwork → Type 0) (networks kept : List IpNetwork)
    (count : ℕ) : Type 0 where
  pub given : All IsOfFamily networks
  pub left : All IsOfFamily kept
  pub within : count ≤ length kept
  pub aggregate : IsAggregate w (map the_network networks) (map the_network (take count kept))

pub either_aggregate : (old parted v4 v6 moved : List IpNetwork) (k a b : ℕ) → IsPermutation old parted → length v4 ≡ k
    → IsAggregated 32 IsV4 (take k parted) v4 a → IsAggregated 128 IsV6 (drop k parted) v6 b
    → moved ≡ copy_within (v4 ++ v6) k (k + b) a → IsIpAggregate old (take (a + b) moved)
either_aggregate old parted v4 v6 moved k a b p size of_v4 of_v6 e =
    let is4 = of_v4.given in
    let is6 = of_v6.given in
    let le : a ≤ k = omega (arith, size, of_v4.within) in
    let d : List IpNetwork = v4 ++ v6 in
    let whole : filter_map as_v4 parted ≡ filter_map as_v4 (take k parted) ++ filter_map as_v4 (drop k parted) =
    ap (filter_map as_v4) (sym (take-append-drop k parted)) ∙ filter_map-append as_v4 (take k parted) (drop k parted) in
    let others : filter_map as_v6 parted ≡ filter_map as_v6 (take k parted) ++ filter_map as_v6 (drop k parted) =
    ap (filter_map as_v6) (sym (take-append-drop k parted)) ∙ filter_map-append as_v6 (take k parted) (drop k parted) in
    let of4 : filter_map as_v4 parted ≡ map the_network (take k parted) =
    whole ∙ ap (λ ns. ns ++ filter_map as_v4 (drop k parted))
    (gives_all as_v4 the_network IsV4 v4_given (take k parted) is4)
    ∙ ap (λ ns. map the_network (take k parted) ++ ns) (gives_none as_v4 IsV6 v4_not_given (drop k parted) is6)
    ∙ append-nil (map the_network (take k parted)) in
    let of6 : filter_map as_v6 parted ≡ map the_network (drop k parted) =
    others ∙ ap (λ ns. ns ++ filter_map as_v6 (drop k parted)) (gives_none as_v6 IsV4 v6_not_given (take k parted) is4)
    ∙ gives_all as_v6 the_network IsV6 v6_given (drop k parted) is6 in
    let size_d : length d ≡ k + length v6 = length-append v4 v6 ∙ ap (λ n. n + length v6) size in
    let behind : drop k d ≡ v6 = ap (λ n. drop n d) (sym size) ∙ drop-append_seam v4 v6 in
    let fits : b ≤ length (drop k d) = subst (λ (l : List IpNetwork). b ≤ length l) (sym behind) of_v6.within in
    let count : k + b - k ≡ b = omega arith in
    let moved_is : moved ≡ paste d a (drop k d) b = e ∙ ap (paste d a (drop k d)) count in
    let front : take (a + b) moved ≡ take a v4 ++ take b v6 =
    ap (take (a + b)) moved_is ∙ take-paste d a (drop k d) b (omega (arith, size_d)) fits
    ∙ ap (λ l. take a d ++ take b l) behind
    ∙ ap (λ l. l ++ take b v6) (take-append-le a v4 v6 (omega (arith, size))) in (
      map the_network (take a v4),
      map the_network (take b v6),
      front ∙ ap (λ l. l ++ take b v6) (known the_network V4 IsV4 v4_known (take a v4) (All-take IsV4 a v4 of_v4.left))
          ∙ ap (λ l. map V4 (map the_network (take a v4)) ++ l)
          (known the_network V6 IsV6 v6_known (take b v6) (All-take IsV6 b v6 of_v6.left)),
      of_part as_v4 32 old parted (take k parted) (map the_network (take a v4)) p of4 of_v4.aggregate,
      of_part as_v6 128 old parted (drop k parted) (map the_network (take b v6)) p of6 of_v6.aggregate,
    )
