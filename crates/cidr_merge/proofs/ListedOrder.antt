-- The order of the entries of lists.
use Rattle.cidr_merge.proofs.Words.{◌≡◌, ◌+◌, ◌-◌, ◌<◌, ◌≤◌, ◌∙◌, ℕ, zero, suc, Bool, true, false, List, [], ◌∷◌, refl, sym, ap, subst, arith, inl, inr, length, map, get_or, ◌⊎◌, slice_index_or, nat_cmp_is, cases_lt, true≢false, le_from_is_le, IsSorted, nat_cmp, bool_cmp, ordering_then, is_le, is_lt, Ordering, Less, Equal, ip_cmp, IpAddr, V4, V6, Listed, listed_cmp, is_up_to, reaches, get_or-map, length-map, address_of, listed_as, overlaps, Placed}
use Rattle.cidr_merge.proofs.KeptEntries.{Falls}

-- ---- addresses

pub le_of : (a b : ℕ) → is_le (nat_cmp a b) ≡ true → a ≤ b
le_of a b e = le_from_is_le a b e

pub of_le : (a b : ℕ) → a ≤ b → is_le (nat_cmp a b) ≡ true
of_le a b l = by (cases_lt a b) where
  by : ((a < b) ⊎ (b ≤ a)) → is_le (nat_cmp a b) ≡ true
  by (inl less) = ap is_le (sym (nat_cmp_is a b Less less))
  by (inr more) = ap is_le (sym (nat_cmp_is a b Equal (omega (arith, l, more))))

pub up_to_all : (a b c : IpAddr) → is_up_to a b ≡ true → is_up_to b c ≡ true → is_up_to a c ≡ true
up_to_all (V4 a) (V4 b) (V4 c) e f = of_le a c (omega (arith, le_of a b e, le_of b c f))
up_to_all (V4 a) (V4 b) (V6 c) e f = refl
up_to_all (V4 a) (V6 b) (V4 c) e f = absurd (let g = f in cc)
up_to_all (V4 a) (V6 b) (V6 c) e f = refl
up_to_all (V6 a) (V4 b) c e f = absurd (let g = e in cc)
up_to_all (V6 a) (V6 b) (V4 c) e f = absurd (let g = f in cc)
up_to_all (V6 a) (V6 b) (V6 c) e f = of_le a c (omega (arith, le_of a b e, le_of b c f))

pub not_before : (a b : ℕ) (o : Ordering) → is_lt (ordering_then (nat_cmp b a) o) ≡ false → a ≤ b
not_before a b o e = by (cases_lt b a) where
  by : ((b < a) ⊎ (a ≤ b)) → a ≤ b
  by (inl less) =
      absurd (true≢false (ap (λ c. is_lt (ordering_then c o)) (nat_cmp_is b a Less less) ∙ e))
  by (inr more) = more

first_up_to : (a b : IpAddr) (o : Ordering) → is_lt (ordering_then (ip_cmp b a) o) ≡ false
    → is_up_to a b ≡ true
first_up_to (V4 a) (V4 b) o e = of_le a b (not_before a b o e)
first_up_to (V4 a) (V6 b) o e = refl
first_up_to (V6 a) (V4 b) o e = absurd (let g = e in cc)
first_up_to (V6 a) (V6 b) o e = of_le a b (not_before a b o e)

pub up_to_itself : (a : IpAddr) → is_up_to a a ≡ true
up_to_itself (V4 a) = of_le a a (omega arith)
up_to_itself (V6 a) = of_le a a (omega arith)

-- ---- entries

-- the first addresses ascend
pub ascends : (xs : List Listed) (i n : ℕ) (d : Listed) → IsSorted listed_cmp xs → i + n < length xs
    → is_up_to (get_or xs i d).first (get_or xs (i + n) d).first ≡ true
ascends xs i zero d h l =
    subst (λ (k : ℕ). is_up_to (get_or xs i d).first (get_or xs k d).first ≡ true) (omega arith)
    (up_to_itself (get_or xs i d).first)
ascends xs i (suc n) d h l =
    let next : i + n + 1 ≡ i + suc n = omega arith in
    up_to_all (get_or xs i d).first (get_or xs (i + n) d).first (get_or xs (i + suc n) d).first
    (ascends xs i n d h (omega (arith, l)))
    (subst (λ (k : ℕ). is_up_to (get_or xs (i + n) d).first (get_or xs k d).first ≡ true) next
    (first_up_to (get_or xs (i + n) d).first (get_or xs (i + n + 1) d).first
    (ordering_then (ip_cmp (get_or xs (i + n) d).last (get_or xs (i + n + 1) d).last)
    (ordering_then (nat_cmp (get_or xs (i + n + 1) d).list (get_or xs (i + n) d).list)
    (nat_cmp (get_or xs (i + n + 1) d).number (get_or xs (i + n) d).number)))
    (h (i + n) d (omega arith) (omega (arith, l)))))

pub reaches_falls : (xs : List Listed) → IsSorted listed_cmp xs → Falls reaches xs
reaches_falls xs h i j d e l m asks =
    let at : i + (j - i) ≡ j = omega (arith, l) in
    up_to_all (get_or xs i d).first (get_or xs j d).first e.last
    (subst (λ (k : ℕ). is_up_to (get_or xs i d).first (get_or xs k d).first ≡ true) at
    (ascends xs i (j - i) d h (omega (arith, at, m)))) asks

-- ---- the order of the code

abbrev key_cmp : Bool × ℕ → Bool × ℕ → Ordering
key_cmp a b = ordering_then (bool_cmp a.0 b.0) (nat_cmp a.1 b.1)

abbrev placed_cmp : Placed → Placed → Ordering
placed_cmp a b =
    ordering_then (key_cmp a.first b.first) (ordering_then (key_cmp b.last.0 a.last.0)
    (ordering_then (nat_cmp a.list b.list) (nat_cmp a.number b.number)))

same_key : (p q : Bool) (a b : ℕ)
    → key_cmp (p, a) (q, b) ≡ ip_cmp (address_of (p, a)) (address_of (q, b))
same_key false false a b = refl
same_key false true a b = refl
same_key true false a b = refl
same_key true true a b = refl

same_order : (a b : Placed) → placed_cmp a b ≡ listed_cmp (listed_as a) (listed_as b)
same_order a b =
    let places = ordering_then (nat_cmp a.list b.list) (nat_cmp a.number b.number) in
    ap (λ (o : Ordering). ordering_then o (ordering_then (key_cmp b.last.0 a.last.0) places))
    (same_key a.first.0 b.first.0 a.first.1 b.first.1)
    ∙ ap (λ (o : Ordering). ordering_then (ip_cmp (address_of a.first) (address_of b.first))
    (ordering_then o places)) (same_key b.last.0.0 a.last.0.0 b.last.0.1 a.last.0.1)

pub sorted_as : (xs : List Placed) → IsSorted placed_cmp xs → IsSorted listed_cmp (map listed_as xs)
sorted_as [] h k d low less = absurd (omega (arith, less))
sorted_as (x ∷ xs) h k d low less =
    let within : k + 1 < length (x ∷ xs) = omega (arith, less, length-map (x ∷ xs) listed_as) in
    let second = get_or-map listed_as (x ∷ xs) (k + 1) x d within in
    let first = get_or-map listed_as (x ∷ xs) k x d (omega (arith, within)) in
    let one = get_or (x ∷ xs) (k + 1) x in
    ap (λ y. is_lt (listed_cmp y (slice_index_or (map listed_as (x ∷ xs)) k d))) second
    ∙ ap (λ y. is_lt (listed_cmp (listed_as one) y)) first
    ∙ ap is_lt (sym (same_order one (get_or (x ∷ xs) k x))) ∙ h k x low within

-- the same, for the entries as the code holds them
pub overlaps_falls : (xs : List Placed) → IsSorted listed_cmp (map listed_as xs) → Falls overlaps xs
overlaps_falls xs h i j d e l m asks =
    let later = get_or-map listed_as xs j d (listed_as d) m in
    let sooner = get_or-map listed_as xs i d (listed_as d) (omega (arith, l, m)) in
    ap (λ y. reaches y (listed_as e)) (sym sooner) ∙ reaches_falls (map listed_as xs) h i j
    (listed_as d) (listed_as e) l (omega (arith, m, length-map xs listed_as))
    (ap (λ y. reaches y (listed_as e)) later ∙ asks)
