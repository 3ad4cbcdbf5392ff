-- The places of sought networks, by the numbers of their ends.
use Rattle.cidr_merge.proofs.Words.{◌≡◌, ◌+◌, ◌-◌, ◌<◌, ◌≤◌, ◌&&◌, ◌∙◌, ℕ, Bool, true, false, List, [], ◌∷◌, ◌++◌, refl, sym, ap, subst, arith, inl, inr, length, map, take, drop, get_or, length-take, ◌⊎◌, All, Contains, IsPermutation, IsSorted, nat_cmp, ordering_then, Ordering, cases_lt, leb-true, get_or-drop, get_or-take, get_or_append_left, get_or_default, get_or_push, is_lt, Less, Equal, Greater, length-append, length-drop, All-append, All-drop, All-map, All-push, All-take, All-permutation, Contains-append_left, Contains-append_right, Contains-permutation, IsNonDecreasingBy-from_all_adjacent, IsNonDecreasingBy-from_sort, length_permutation, IpAddr, V4, V6, IpNetwork, map_contains, Entry, is_range, do_meet, ends_of, AreAscending, AreFound, AreOuters, ArePlacesOf, AreUpTo, EndBy, HaveReaching, Place, Places, place_of, is_v6, number_of, Sought}
use Rattle.ipnetwork.specs.IpNetworks.{ip_low, ip_high}
use Rattle.ipnetwork.specs.declared.ip_network.IpNetwork.TheVariants as networks
use Rattle.lists.specs.declared.entry.Entry.TheVariants as entries
use Rattle.cidr_merge.proofs.ListedOrder.{not_before}

-- ---- the numbers of what an entry meets

both : (a b : Bool) → (a && b) ≡ true → (a ≡ true) × (b ≡ true)
both true true e = (refl, refl)
both true false e = absurd (let q = e in cc)
both false b e = absurd (let q = e in cc)

-- the ends of a range are of one family, and their numbers ascend
in_order : (a b : IpAddr) → is_range a b ≡ true → (is_v6 a ≡ is_v6 b) × (number_of a ≤ number_of b)
in_order (V4 a) (V4 b) e = let l = leb-true a b e in (refl, omega (arith, l))
in_order (V4 a) (V6 b) e = absurd (let q = e in cc)
in_order (V6 a) (V4 b) e = absurd (let q = e in cc)
in_order (V6 a) (V6 b) e = (refl, leb-true a b e)

one_family : (n : IpNetwork) → is_v6 (ip_low n) ≡ is_v6 (ip_high n)
one_family (networks.V4 n) = refl
one_family (networks.V6 n) = refl

-- a network that shares an address with what is between two ends is of their family, ends not before the first, and
-- begins not after the last
abbrev IsBeside : IpAddr × IpAddr → IpNetwork → Type 0
IsBeside ends n = (is_v6 (ip_low n) ≡ is_v6 ends.0) × (number_of ends.0 ≤ number_of (ip_high n))
    × (number_of (ip_low n) ≤ number_of ends.1)

is_beside : (ends : IpAddr × IpAddr) (n : IpNetwork) → do_meet ends (ends_of (entries.Network n)) ≡ true
    → IsBeside ends n
is_beside ends (networks.V4 n) e =
    let k = both _ _ e in
    let first = in_order ends.0 (ip_high (networks.V4 n)) k.0 in
    (sym first.0, first.1, (in_order (ip_low (networks.V4 n)) ends.1 k.1).1)
is_beside ends (networks.V6 n) e =
    let k = both _ _ e in
    let first = in_order ends.0 (ip_high (networks.V6 n)) k.0 in
    (sym first.0, first.1, (in_order (ip_low (networks.V6 n)) ends.1 k.1).1)

-- ---- places in order

abbrev place_cmp : Place → Place → Ordering
place_cmp a b = ordering_then (ordering_then (nat_cmp a.0 b.0) (nat_cmp a.1 b.1)) (nat_cmp a.2 b.2)

then_assoc : (a b c : Ordering)
    → ordering_then (ordering_then a b) c ≡ ordering_then a (ordering_then b c)
then_assoc Less b c = refl
then_assoc Equal b c = refl
then_assoc Greater b c = refl

sorted_places : (xs : List Place) → IsSorted place_cmp xs → AreAscending xs
sorted_places xs h = IsNonDecreasingBy-from_all_adjacent (λ p. p.0) xs
    (λ k d l. not_before (get_or xs k d).0 (get_or xs (k + 1) d).0
    (ordering_then (nat_cmp (get_or xs (k + 1) d).1 (get_or xs k d).1)
    (nat_cmp (get_or xs (k + 1) d).2 (get_or xs k d).2))
    (ap is_lt (sym (then_assoc (nat_cmp (get_or xs (k + 1) d).0 (get_or xs k d).0)
    (nat_cmp (get_or xs (k + 1) d).1 (get_or xs k d).1) (nat_cmp (get_or xs (k + 1) d).2 (get_or xs k d).2)))
    ∙ h k d (omega arith) l))

-- a place at an index less than `count` is among the first `count` places
stands_among : (places : List Place) (count : ℕ) (one : Place) (c : Contains places one)
    → count ≤ length places → c.0 < count → Contains (take count places) one
stands_among places count one c within l =
    let n = length-take count places in (c.0, omega (arith, n, l, within), get_or-take count places c.0 one l ∙ c.2)

-- any other is among those after them
stands_behind : (places : List Place) (count : ℕ) (one : Place) (c : Contains places one)
    → count ≤ length places → count ≤ c.0 → Contains (drop count places) one
stands_behind places count one c within more =
    let at : count + (c.0 - count) ≡ c.0 = omega (arith, more) in
    let n = length-drop count places in (
      c.0 - count,
      omega (arith, n, c.1, more, within),
      get_or-drop count places (c.0 - count) one ∙ ap (λ (k : ℕ). get_or places k one) at ∙ c.2,
    )

-- the first `count` places have each place with a number up to `last`, if the next one has a greater number or there is
-- none
pub front : (places : List Place) (count last : ℕ) → AreAscending places → count ≤ length places
    → ((d : Place) → count < length places → last < (get_or places count d).0)
    → AreUpTo places last (take count places)
front places count last up within stop = record {
  few = omega (arith, length-take count places);
  some = λ n all. All-take (λ p. p.2 < n) count places all;
  all = λ one c l. among one c l (cases_lt c.0 count);
} where
  among : (one : Place) (c : Contains places one) → one.0 ≤ last → ((c.0 < count) ⊎ (count ≤ c.0))
      → Contains (take count places) one
  among one c l (inl less) = stands_among places count one c within less
  among one c l (inr more) =
      let is = c.1 in
      let above = stop one (omega (arith, more, is)) in
      let rises = up count c.0 one more is in
      let e = ap (λ (p : Place). p.0) c.2 in absurd (omega (arith, above, rises, e, l))

-- ---- places that end no later

-- one more place is passed over, and all that it passes over
pub skips_more : (places : List Place) (outers : List ℕ) (outer at last d : ℕ) (e : Place)
    → AreOuters places outers → length outers ≡ at → at ≤ length places → 0 < outer → outer ≤ at
    → (get_or places (outer - 1) e).1 ≤ last → EndBy places outer at last
    → (get_or outers (outer - 1) d ≤ at) × EndBy places (get_or outers (outer - 1) d) at last
skips_more places outers outer at last d e are many short some within ends passed =
    let less : outer - 1 < length outers = omega (arith, many, some, within) in
    let up = are.up_to (outer - 1) d less in (
      omega (arith, up, within),
      λ k f from below. by k f from below (cases_lt k (outer - 1)) (cases_lt (outer - 1) k),
    ) where
      by : (k : ℕ) (f : Place) → get_or outers (outer - 1) d ≤ k → k < at
          → ((k < outer - 1) ⊎ (outer - 1 ≤ k)) → ((outer - 1 < k) ⊎ (k ≤ outer - 1)) → (get_or places k f).1 ≤ last
      by k f from below (inl sooner) later =
          let skips = are.skips (outer - 1) k d f (omega (arith, many, some, within)) from sooner in
          let same = ap (λ (p : Place). p.1) (get_or_default places (outer - 1) f e (omega (arith, some, within, short)))
          in omega (arith, skips, same, ends)
      by k f from below (inr not_sooner) (inl later) = passed k f (omega (arith, later)) below
      by k f from below (inr not_sooner) (inr not_later) =
          let here : k ≡ outer - 1 = omega (arith, not_sooner, not_later) in
          let same = ap (λ (n : ℕ). (get_or places n f).1) here
          ∙ ap (λ (p : Place). p.1) (get_or_default places (outer - 1) f e (omega (arith, some, within, short))) in
          omega (arith, same, ends)

-- the number of one more place is known
pub outers_more : (places : List Place) (outers : List ℕ) (outer : ℕ) → AreOuters places outers
    → length outers < length places → outer ≤ length outers
    → ((d : Place) → EndBy places outer (length outers) (get_or places (length outers) d).1)
    → AreOuters places (outers ++ outer ∷ [])
outers_more places outers outer are short within ends = record {
  up_to = λ k d less. up_to k d (cases_lt k (length outers)) (omega (arith, less, length-append outers (outer ∷ [])));
  skips = λ k between d e less from below.
      skips k between d e (cases_lt k (length outers)) (omega (arith, less, length-append outers (outer ∷ []))) from below;
} where
  early : (k d : ℕ) → k < length outers → get_or (outers ++ outer ∷ []) k d ≡ get_or outers k d
  early k d less = get_or_append_left outers (outer ∷ []) d k less

  last : (k d : ℕ) → k ≡ length outers → get_or (outers ++ outer ∷ []) k d ≡ outer
  last k d is = get_or_push outers outer d k (sym is)

  up_to : (k d : ℕ) → ((k < length outers) ⊎ (length outers ≤ k)) → k < length outers + 1
      → get_or (outers ++ outer ∷ []) k d ≤ k
  up_to k d (inl less) n = let e = early k d less in let u = are.up_to k d less in omega (arith, e, u)
  up_to k d (inr more) n = let e = last k d (omega (arith, more, n)) in omega (arith, e, within, more)

  skips : (k between d : ℕ) (e : Place) → ((k < length outers) ⊎ (length outers ≤ k)) → k < length outers + 1
      → get_or (outers ++ outer ∷ []) k d ≤ between → between < k → (get_or places between e).1 ≤ (get_or places k e).1
  skips k between d e (inl less) n from below =
      let f = early k d less in are.skips k between d e less (omega (arith, f, from)) below
  skips k between d e (inr more) n from below =
      let f = last k d (omega (arith, more, n)) in
      let is : k ≡ length outers = omega (arith, more, n) in
      let h = ends e between e (omega (arith, f, from)) (omega (arith, is, below)) in
      let g = ap (λ (n : ℕ). (get_or places n e).1) is in omega (arith, h, g)

-- ---- places that reach a number

pub reaching_none : (places : List Place) (begin first : ℕ) → HaveReaching places begin begin first []
reaching_none places begin first = record {
  within = λ n all k d less. absurd (omega (arith, less));
  each = λ k d low less reach. absurd (omega (arith, low, less));
}

-- the place before those that were looked at is put, whether it reaches the number or not
pub reaching_more : (places : List Place) (end begin first place : ℕ) (found : List ℕ) (d : Place) → 0 < end
    → end ≤ begin → begin ≤ length places → place ≡ (get_or places (end - 1) d).2
    → HaveReaching places end begin first found → HaveReaching places (end - 1) begin first (found ++ place ∷ [])
reaching_more places end begin first place found d some within short is are = record {
  within = λ n all. All-push (λ p. p < n) found place (are.within n all)
      (let less = all (end - 1) d (omega (arith, some, within, short)) in omega (arith, is, less));
  each = λ k f low less reach. by k f low less reach (cases_lt k end);
} where
  by : (k : ℕ) (f : Place) → end - 1 ≤ k → k < begin → first ≤ (get_or places k f).1 → ((k < end) ⊎ (end ≤ k))
      → Contains (found ++ place ∷ []) (get_or places k f).2
  by k f low less reach (inr later) =
      Contains-append_left found (place ∷ []) (get_or places k f).2 (are.each k f later less reach)
  by k f low less reach (inl here) =
      let at : k ≡ end - 1 = omega (arith, low, here) in
      let same : place ≡ (get_or places k f).2 = is
      ∙ ap (λ (p : Place). p.2) (get_or_default places (end - 1) d f (omega (arith, some, within, short)))
      ∙ ap (λ (n : ℕ). (get_or places n f).2) (sym at) in
      Contains-append_right found (place ∷ []) (get_or places k f).2 (0, omega arith, same)

-- those that end before the number are passed over
pub reaching_less : (places : List Place) (outers : List ℕ) (end begin first d : ℕ) (e : Place) (found : List ℕ)
    → AreOuters places outers → 0 < end → end ≤ begin → begin ≤ length places → length outers ≡ length places
    → (get_or places (end - 1) e).1 < first → HaveReaching places end begin first found
    → (get_or outers (end - 1) d < end) × HaveReaching places (get_or outers (end - 1) d) begin first found
reaching_less places outers end begin first d e found outer some within short many ends are =
    let less : end - 1 < length outers = omega (arith, many, some, within, short) in
    let up = outer.up_to (end - 1) d less in (
      omega (arith, up, some),
      record { within = are.within; each = λ k f low below reach. by k f low below reach (cases_lt k end) },
    ) where
      by : (k : ℕ) (f : Place) → get_or outers (end - 1) d ≤ k → k < begin → first ≤ (get_or places k f).1
          → ((k < end) ⊎ (end ≤ k)) → Contains found (get_or places k f).2
      by k f low below reach (inr later) = are.each k f later below reach
      by k f low below reach (inl here) = absurd (ended (cases_lt k (end - 1))) where
        same : (get_or places (end - 1) f).1 ≡ (get_or places (end - 1) e).1
        same = ap (λ (p : Place). p.1) (get_or_default places (end - 1) f e (omega (arith, some, within, short)))

        ended : ((k < end - 1) ⊎ (end - 1 ≤ k)) → ⊥
        ended (inl sooner) =
            let skips = outer.skips (end - 1) k d f (omega (arith, many, some, within, short)) low sooner in
            omega (arith, skips, same, ends, reach)
        ended (inr not_sooner) =
            let at = ap (λ (n : ℕ). (get_or places n f).1) (let is : k ≡ end - 1 = omega (arith, here, not_sooner) in is)
            in omega (arith, at, same, ends, reach)

-- ---- the places of what an entry meets

pub are_found : (entry : Entry) (of_v6 : Bool) (sought : List Sought) (places : Places) (items : List Place)
    (reaching : List ℕ) (part : List Place) (unsorted sorted : List ℕ) (begin low high : ℕ)
    → of_v6 ≡ is_v6 (ends_of entry).0 → low ≡ number_of (ends_of entry).0 → high ≡ number_of (ends_of entry).1
    → ArePlacesOf of_v6 sought places → items ≡ places.sorted.items → begin ≤ length items
    → HaveReaching items 0 begin low reaching → AreUpTo (drop begin items) high part
    → unsorted ≡ reaching ++ map (λ place. place.2) part → IsPermutation unsorted sorted → IsSorted nat_cmp sorted
    → AreFound entry sought sorted
are_found entry of_v6 sought places items reaching part unsorted sorted begin low high family first last are same within
    reach up put moved sort = record {
      ascend = IsNonDecreasingBy-from_sort (λ n. n) sorted sort;
      within = All-permutation (λ n. n < length sought) unsorted sorted moved
          (subst (All (λ n. n < length sought)) (sym put)
          (All-append (λ n. n < length sought) reaching (map (λ (place : Place). place.2) part)
          (reach.within (length sought) all_within)
          (All-map (λ n. n < length sought) (λ (place : Place). place.2) part
          (up.some (length sought) (All-drop (λ p. p.2 < length sought) begin items all_within)))));
      each = λ at d l met. Contains-permutation unsorted sorted at moved
          (subst (λ (ns : List ℕ). Contains ns at) (sym put)
          (found at d (is_beside (ends_of entry) (get_or sought at d).network met)
          (subst (λ (ps : List Place). Contains ps (place_of (get_or sought at d) at)) (sym same)
          (are.each at d l ((is_beside (ends_of entry) (get_or sought at d).network met).0 ∙ sym family)))));
    } where
      all_within : All (λ place. place.2 < length sought) items
      all_within = subst (All (λ (place : Place). place.2 < length sought)) (sym same) are.within

      found : (at : ℕ) (d : Sought) → IsBeside (ends_of entry) (get_or sought at d).network
          → Contains items (place_of (get_or sought at d) at)
          → Contains (reaching ++ map (λ (place : Place). place.2) part) at
      found at d beside c = by (cases_lt c.0 begin) where
        by : ((c.0 < begin) ⊎ (begin ≤ c.0)) → Contains (reaching ++ map (λ (place : Place). place.2) part) at
        by (inl sooner) =
            let e = ap (λ (p : Place). p.1) c.2 in
            let above = beside.1 in
            Contains-append_left reaching (map (λ (place : Place). place.2) part) at
            (subst (λ (n : ℕ). Contains reaching n) (ap (λ (p : Place). p.2) c.2)
            (reach.each c.0 (place_of (get_or sought at d) at) (omega arith) sooner (omega (arith, e, above, first))))
        by (inr later) =
            let below = beside.2 in
            Contains-append_right reaching (map (λ (place : Place). place.2) part) at
            (map_contains (λ (place : Place). place.2) part (place_of (get_or sought at d) at)
            (up.all (place_of (get_or sought at d) at)
            (stands_behind items begin (place_of (get_or sought at d) at) c within later)
            (omega (arith, below, last))))

-- ---- places, one after the other

-- of so many of the networks that are sought, those of a family have these places
pub record ArePlacesUpTo (of_v6 : Bool) (sought : List Sought) (places : List Place) (count : ℕ) : Type 0 where
  pub few : length places ≤ count
  pub within : All (λ place. place.2 < count) places
  pub each : (at : ℕ) (d : Sought) → at < count → is_v6 (ip_low (get_or sought at d).network) ≡ of_v6
      → Contains places (place_of (get_or sought at d) at)

pub all_placed : (of_v6 : Bool) (sought : List Sought) (unsorted : List Place) (places : Places) (count : ℕ)
    → count ≡ length sought → ArePlacesUpTo of_v6 sought unsorted count
    → IsPermutation unsorted places.sorted.items → IsSorted place_cmp places.sorted.items
    → length places.outers.items ≡ length places.sorted.items → AreOuters places.sorted.items places.outers.items
    → ArePlacesOf of_v6 sought places
all_placed of_v6 sought unsorted places count is h same order many outers = record {
  ascend = sorted_places places.sorted.items order;
  few = omega (arith, length_permutation unsorted places.sorted.items same, h.few, is);
  within = All-permutation (λ p. p.2 < length sought) unsorted places.sorted.items same
      (subst (λ (n : ℕ). All (λ (p : Place). p.2 < n) unsorted) is h.within);
  each = λ at d less family. Contains-permutation unsorted places.sorted.items (place_of (get_or sought at d) at) same
      (h.each at d (omega (arith, is, less)) family);
  many = many;
  outers = outers;
}
