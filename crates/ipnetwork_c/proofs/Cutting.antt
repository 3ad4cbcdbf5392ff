-- Where the networks of a table divide the addresses, and why one place serves a whole range.
use Rattle.ipnetwork_c.proofs.Words.{◌≡◌, ◌↔◌, ℕ, zero, suc, ◌+◌, ◌-◌, ◌*◌, ◌/◌, ◌^◌, ◌<◌, ◌≤◌, ◌⊎◌, inl, inr, ⊎_elim, List, [], ◌∷◌, ◌++◌, length, map, take, drop, get_or, slice_set, sym, refl, ap, subst, ◌∙◌, arith, append_assoc, take-append-drop, ◌≢◌, get_or-set_other, get_or-set_same, All, AllPairs, Contains, IsPermutation, cases_lt, get_or_default, get_or-map, length-map, map-append, length-set, drop-set-lt, drop-drop, length-take-le, take-append_seam, drop-append_seam, All-nil, All-cons, All-append, All-map, Contains-append_left, Contains-append_right, Contains-append_cases, All-permutation, Contains-permutation, IsPermutation-map, IsPermutation-sym, length_permutation, Network, IsNetwork, IsNetworkAtMost, Member, block_at, low, high, block_size, size_pos, within_member, member_within, InUnion, AreInOrder, contains_cons, contains_nil, IsSplitAt, PrefixFits, On, Nothing, StandsAt, LastFits, IsTable, FindsLongest, TableQuery, no_place, place_before, IsLongestAt, AreMadeOf, MakesRanges, RangeQuery, firsts, IsAlone, AreEndsOf, AreCutsOf, IsWrittenUpTo, ArePlacesUpTo, get_or_from_slice_get, slice_get_within}
use Rattle.std.proofs.Common.{length-append}
use Rattle.ipnetwork_c.proofs.Searching.{stands_split}

-- ---- the ends of one network

pub ends_one : {C : Type 0} (w : ℕ) (holds : C → Type 0) (held : C → Network) (n : Network) (a : C) → IsNetwork w n
    → IsAlone w holds held a → (held a).address ≡ low w n → high w n + 1 ≡ 2 ^ w → AreEndsOf w holds held n (a ∷ [])
ends_one {C} w holds held n a fits is begins whole = record {
  network = fits;
  few = omega arith;
  alone = All-cons (IsAlone w holds held) a [] is (All-nil (IsAlone w holds held));
  begun = (0, omega arith, begins);
  ended = λ less. absurd (omega (arith, less, whole));
  only = λ x c. ⊎_elim
      (λ (e : (held a).address ≡ x). inl (sym e ∙ begins))
      (λ (d : Contains [] x). absurd (contains_nil x d))
      (contains_cons (held a).address [] x c);
}

pub ends_two : {C : Type 0} (w : ℕ) (holds : C → Type 0) (held : C → Network) (n : Network) (a b : C) → IsNetwork w n
    → IsAlone w holds held a → (held a).address ≡ low w n → IsAlone w holds held b → (held b).address ≡ high w n + 1
    → AreEndsOf w holds held n (a ∷ b ∷ [])
ends_two {C} w holds held n a b fits is begins is_too ends = record {
  network = fits;
  few = omega arith;
  alone = All-cons (IsAlone w holds held) a (b ∷ []) is
      (All-cons (IsAlone w holds held) b [] is_too (All-nil (IsAlone w holds held)));
  begun = (0, omega arith, begins);
  ended = λ less. (1, omega arith, ends);
  only = λ x c. ⊎_elim
      (λ (e : (held a).address ≡ x). inl (sym e ∙ begins))
      (λ (d : Contains ((held b).address ∷ []) x). ⊎_elim
      (λ (e : (held b).address ≡ x). inr (sym e ∙ ends))
      (λ (f : Contains [] x). absurd (contains_nil x f))
      (contains_cons (held b).address [] x d))
      (contains_cons (held a).address ((held b).address ∷ []) x c);
}

-- the block of only one address begins at the address
pub alone_at : (w x p : ℕ) → p ≡ w → (block_at w x p).address ≡ x
alone_at w x p is = let e : 0 ≡ w - p = omega (arith, is) in subst (λ (k : ℕ). x / 2 ^ k * 2 ^ k ≡ x) e (omega arith)

-- two more values at the front of a list
pub put_more : {C : Type 0} (list between after : List C) (count result : ℕ) (a b : C) → take (count + 1) between ≡ take
    count list ++ a ∷ [] → take (count + 1 + 1) after ≡ take (count + 1) between ++ b ∷ [] → result ≡ count + 2
    → take result after ≡ take count list ++ a ∷ b ∷ []
put_more list between after count result a b first second is =
    let e : result ≡ count + 1 + 1 = omega (arith, is) in
    ap (λ k. take k after) e ∙ second ∙ ap (λ xs. xs ++ b ∷ []) first ∙ append_assoc (take count list) (a ∷ []) (b ∷ [])

-- ---- the ends of one more network

pub cuts_none : {C : Type 0} (w : ℕ) (holds : C → Type 0) (held : C → Network) (networks : List Network)
    → AreCutsOf w holds held networks 0 []
cuts_none w holds held networks = record {
  network = λ k d l. absurd (omega (arith, l));
  few = omega arith;
  alone = All-nil (IsAlone w holds held);
  begun = λ k d l. absurd (omega (arith, l));
  ended = λ k d l. absurd (omega (arith, l));
  only = λ a c. absurd (contains_nil a c);
}

pub cuts_more : {C : Type 0} (w : ℕ) (holds : C → Type 0) (held : C → Network) (networks : List Network) (rows : ℕ)
    (front put : List C) (n : Network) → AreCutsOf w holds held networks rows front → AreEndsOf w holds held n put
    → rows < length networks → n ≡ get_or networks rows n → AreCutsOf w holds held networks (rows + 1) (front ++ put)
cuts_more {C} w holds held networks rows front put n so_far ends below is =
    let all : firsts held (front ++ put) ≡ firsts held front ++ firsts held put =
    map-append (λ c. (held c).address) front put in
    let at : (d : Network) → n ≡ get_or networks rows d = λ d. is ∙ get_or_default networks rows n d below in
    let left : (a : ℕ) → Contains (firsts held front) a → Contains (firsts held (front ++ put)) a = λ a c.
    subst (λ (xs : List ℕ). Contains xs a) (sym all) (Contains-append_left (firsts held front) (firsts held put) a c) in
    let right : (a : ℕ) → Contains (firsts held put) a → Contains (firsts held (front ++ put)) a = λ a c.
    subst (λ (xs : List ℕ). Contains xs a) (sym all) (Contains-append_right (firsts held front) (firsts held put) a c)
    in
    let few = so_far.few in
    let few_more = ends.few in
    record {
      network = λ k d l. ⊎_elim
          (λ (less : k < rows). so_far.network k d less)
          (λ (more : rows ≤ k).
          let here : rows ≡ k = omega arith in
          subst (λ (j : ℕ). IsNetwork w (get_or networks j d)) here (subst (IsNetwork w) (at d) ends.network))
          (cases_lt k rows);
      few = omega (arith, few, few_more, length-append front put);
      alone = All-append (IsAlone w holds held) front put so_far.alone ends.alone;
      begun = λ k d l. ⊎_elim
          (λ (less : k < rows). left (low w (get_or networks k d)) (so_far.begun k d less))
          (λ (more : rows ≤ k).
          let here : rows ≡ k = omega arith in
          subst (λ (j : ℕ). Contains (firsts held (front ++ put)) (low w (get_or networks j d))) here
          (subst (λ (m : Network). Contains (firsts held (front ++ put)) (low w m)) (at d)
          (right (low w n) ends.begun)))
          (cases_lt k rows);
      ended = λ k d l fits. ⊎_elim
          (λ (less : k < rows). left (high w (get_or networks k d) + 1) (so_far.ended k d less fits))
          (λ (more : rows ≤ k).
          let here : rows ≡ k = omega arith in
          let same : n ≡ get_or networks k d = at d ∙ ap (λ j. get_or networks j d) here in
          subst (λ (m : Network). Contains (firsts held (front ++ put)) (high w m + 1)) same
          (right (high w n + 1) (ends.ended (subst (λ (m : Network). high w m + 1 < 2 ^ w) (sym same) fits))))
          (cases_lt k rows);
      only = λ a c. ⊎_elim
          (λ (d : Contains (firsts held front) a). so_far.only a d)
          (λ (d : Contains (firsts held put) a). (n, (rows, below, sym is), ends.only a d))
          (Contains-append_cases (firsts held front) (firsts held put) a
          (subst (λ (xs : List ℕ). Contains xs a) all c));
    }

-- ---- what each step writes

pub written_first : {C : Type 0} (list : List C) (place : ℕ) (c : C) → place < length list
    → IsWrittenUpTo list (slice_set list place c) (place + 1)
written_first list place c below = record {
  size = length-set list place c;
  within = omega (arith, below, length-set list place c);
  rest = drop-set-lt (place + 1) list place c (omega arith);
}

pub written_more : {C : Type 0} (list between after : List C) (count more : ℕ) → IsWrittenUpTo list between count
    → IsWrittenUpTo between after more → count ≤ more → IsWrittenUpTo list after more
written_more {C} list between after count more first second grows =
    let apart : ℕ = more - count in
    let e : count + apart ≡ more = omega arith in
    let further : (xs : List C) → drop more xs ≡ drop apart (drop count xs) =
    λ xs. sym (drop-drop apart count xs ∙ ap (λ k. drop k xs) e) in
    record {
      size = second.size ∙ first.size;
      within = second.within;
      rest = second.rest ∙ further between ∙ ap (drop apart) first.rest ∙ sym (further list);
    }

pub written_none : {C : Type 0} (list : List C) → IsWrittenUpTo list list 0
written_none list = record { size = refl; within = omega arith; rest = refl }

-- ---- the ranges are in order

at_most_ascends : (a b : Network) → IsNetworkAtMost a b → a.address ≤ b.address
at_most_ascends a b o =
    ⊎_elim
    (λ (less : a.address < b.address). let r : a.address ≤ b.address = omega arith in r)
    (λ (e : (a.address ≡ b.address) × (a.prefix ≤ b.prefix)). let is = e.0 in
    let r : a.address ≤ b.address = omega arith in r)
    o

climbs : (ns : List Network) (i more : ℕ) (d : Network) → AreInOrder ns → i + more < length ns
    → (get_or ns i d).address ≤ (get_or ns (i + more) d).address
climbs ns i zero d o l = let e : i ≡ i + 0 = omega arith in
    subst (λ (j : ℕ). (get_or ns i d).address ≤ (get_or ns j d).address) e (omega arith)
climbs ns i (suc more) d o l =
    let so_far = climbs ns i more d o (omega (arith, l)) in
    let step = at_most_ascends _ _ (o (i + more) d (omega (arith, l))) in
    let e : i + more + 1 ≡ i + suc more = omega arith in
    subst (λ (j : ℕ). (get_or ns i d).address ≤ (get_or ns j d).address) e (omega (arith, so_far, step))

pub ascends : (ns : List Network) → AreInOrder ns → AllPairs (λ a b. a.address ≤ b.address) ns
ascends ns o i j d l m =
    let e : i + (j - i) ≡ j = omega arith in
    subst (λ (k : ℕ). (get_or ns i d).address ≤ (get_or ns k d).address) e
    (climbs ns i (j - i) d o (omega (arith, m, e)))

-- ---- the addresses of a range have the same networks

-- a cut at or before x comes no later than the last range that begins at or before x
cut_before : (ns : List Network) (x i a : ℕ) → IsSplitAt ns x i i → AllPairs (λ a b. a.address ≤ b.address) ns
    → Contains (map (λ n. n.address) ns) a → a ≤ x
    → (0 < i) × ((d : Network) → a ≤ (get_or ns (i - 1) d).address)
cut_before ns x i a split up c le =
    let size = length-map ns (λ (n : Network). n.address) in
    let there : c.0 < length ns = omega (arith, c.1, size) in
    let is : (d : Network) → a ≡ (get_or ns c.0 d).address = λ d. sym c.2
    ∙ get_or-map (λ (n : Network). n.address) ns c.0 d a there in
    ⊎_elim
    (λ (below : c.0 < i). (
      omega (arith, below),
      λ d. ⊎_elim
          (λ (less : c.0 < i - 1). let within = split.within in let o : (get_or ns c.0 d).address
          ≤ (get_or ns (i - 1) d).address = up c.0 (i - 1) d less (omega arith) in omega (arith, o, is d))
          (λ (more : i - 1 ≤ c.0).
          let e : c.0 ≡ i - 1 = omega arith in
          subst (λ (j : ℕ). a ≤ (get_or ns j d).address) e (omega (arith, is d)))
          (cases_lt c.0 (i - 1)),
    ))
    (λ (above : i ≤ c.0).
    let d : Network = record { address = 0; prefix = 0 } in
    let later : x < (get_or ns c.0 d).address = split.above c.0 d above there in
    absurd (omega (arith, later, is d, le)))
    (cases_lt c.0 i)

-- both ends of a network are cuts
pub record CutsAt (w : ℕ) (cuts : List ℕ) (n : Network) : Type 0 where
  pub network : IsNetwork w n
  pub begun : Contains cuts (low w n)
  pub ended : high w n + 1 < 2 ^ w → Contains cuts (high w n + 1)

-- if a network has x, some range begins at or before x
none_before : (w : ℕ) (ns : List Network) (x i : ℕ) (n : Network) → IsSplitAt ns x i i
    → AllPairs (λ a b. a.address ≤ b.address) ns → CutsAt w (map (λ n. n.address) ns) n → Member w n x → 0 < i
none_before w ns x i n split up cuts m =
    let inside = within_member w n x m in
    (cut_before ns x i (low w n) split up cuts.begun inside.0).0

-- the network has x exactly if it has the first address of the range
same_members : (w : ℕ) (ns : List Network) (x i : ℕ) (n d : Network) → x < 2 ^ w → IsSplitAt ns x i i
    → AllPairs (λ a b. a.address ≤ b.address) ns → CutsAt w (map (λ n. n.address) ns) n → 0 < i
    → Member w n x ↔ Member w n (get_or ns (i - 1) d).address
same_members w ns x i n d fits split up cuts some =
    let f : ℕ = (get_or ns (i - 1) d).address in
    let s : ℕ = block_size w n.prefix in
    let pos : 0 < s = size_pos w n.prefix in
    let begins : f ≤ x = split.below (i - 1) d (omega arith) in (
      (λ m.
          let inside = within_member w n x m in
          let from : low w n ≤ f = (cut_before ns x i (low w n) split up cuts.begun inside.0).1 d in
          let to = inside.1 in
          member_within w n cuts.network f from (omega (arith, begins, to))),
      (λ m.
          let inside = within_member w n f m in
          let from = inside.0 in
          let to = inside.1 in
          ⊎_elim
          (λ (within : x < low w n + s). member_within w n cuts.network x (omega (arith, begins, from)) within)
          (λ (past : low w n + s ≤ x).
          let end : high w n + 1 ≡ low w n + s = omega (arith, pos) in
          let late = (cut_before ns x i (high w n + 1) split up (cuts.ended (omega (arith, end, past, fits)))
          (omega (arith, end, past))).1 d in
          absurd (omega (arith, late, end, to)))
          (cases_lt x (low w n + s))),
    )

-- ---- what is found for the first address of a range is found for all of them

moved : (w : ℕ) (table : List Network) (x y place : ℕ) → ((k : ℕ) (d : Network) → k < length table → Member w
    (get_or table k d) x ↔ Member w (get_or table k d) y) → IsLongestAt w table y place → IsLongestAt w table x place
moved w table x y place same h =
    ⊎_elim
    (λ (f : (place < no_place) × FindsLongest w table y place).
    let within = f.1.within in
    inl (
      f.0,
      record {
        within = within;
        one = λ d. (same place d within).1 (f.1.one d);
        longest = λ t k d l m. f.1.longest t k d l ((same k d l).0 m);
        last = λ t k d after l m. f.1.last t k d after l ((same k d l).0 m);
      },
    ))
    (λ (n : (place ≡ no_place) × (IsTable w table → ¬ (InUnion w table y))).
    inr (
      n.0,
      λ t u.
          let c = u.1 in
          let k : ℕ = c.0 in
          let at : get_or table k u.0 ≡ u.0 = c.2 in
          let has : Member w (get_or table k u.0) x = subst (λ (m : Network). Member w m x) (sym at) u.2 in
          let has_y : Member w u.0 y = subst (λ (m : Network). Member w m y) at ((same k u.0 c.1).0 has) in
          n.1 t (u.0, c, has_y),
    ))
    h

pub place_behind : (places : List ℕ) (i : ℕ) → 0 < i → i ≤ length places
    → place_before places i ≡ get_or places (i - 1) 0
place_behind places zero some l = absurd (omega (arith, some))
place_behind places (suc i) some l = let e : suc i - 1 ≡ i = omega arith in
    get_or_default places i no_place 0 (omega (arith, l)) ∙ ap (λ k. get_or places k 0) (sym e)

pub answers_all : (w : ℕ) (table ranges : List Network) (places : List ℕ) (x i : ℕ)
    → ((k : ℕ) (d : Network) → k < length table → CutsAt w (map (λ n. n.address) ranges) (get_or table k d))
    → AllPairs (λ a b. a.address ≤ b.address) ranges → length places ≡ length ranges → ((k : ℕ) (d : Network)
    → k < length ranges → IsLongestAt w table (get_or ranges k d).address (get_or places k 0))
    → x < 2 ^ w → StandsAt ranges x i → IsLongestAt w table x (place_before places i)
answers_all w table ranges places x i cuts up size beside fits stands =
    let split = stands_split ranges x i stands up in
    let within = stands.within in
    let d : Network = record { address = 0; prefix = 0 } in
    ⊎_elim
    (λ (some : 0 < i).
    let k : i - 1 < length ranges = omega (arith, some, within) in
    subst (IsLongestAt w table x) (sym (place_behind places i some (omega (arith, within, size))))
    (moved w table x (get_or ranges (i - 1) d).address (get_or places (i - 1) 0)
    (λ j e l. same_members w ranges x i (get_or table j e) d fits split up (cuts j e l) some) (beside (i - 1) d k)))
    (λ (none : i ≤ 0).
    let e : 0 ≡ i = omega arith in
    subst (λ (j : ℕ). IsLongestAt w table x (place_before places j)) e
    (inr (
      refl,
      λ t u.
          let c = u.1 in
          let at : get_or table c.0 u.0 ≡ u.0 = c.2 in
          let has : Member w (get_or table c.0 u.0) x = subst (λ (m : Network). Member w m x) (sym at) u.2 in
          let some = none_before w ranges x i (get_or table c.0 u.0) split up (cuts c.0 u.0 c.1) has in
          omega (arith, some, none),
    )))
    (cases_lt 0 i)

-- ---- the place that a search of the table finds

pub fits_last : {C : Type 0} (w : ℕ) (held : C → Network) (list : List C) (i : ℕ)
    → All (λ c. PrefixFits w (held c)) list → LastFits w (map held list) i
fits_last w held [] i all n some got = let l = slice_get_within [] (i - 1) n got in absurd (omega (arith, l))
fits_last w held (c ∷ cs) i all n some got =
    let list = c ∷ cs in
    let l = slice_get_within (map held list) (i - 1) n got in
    let size = length-map list held in
    let there : i - 1 < length list = omega (arith, l, size) in
    let is : held (get_or list (i - 1) c) ≡ n = sym (get_or-map held list (i - 1) c n there)
    ∙ get_or_from_slice_get (map held list) (i - 1) n n got in
    subst (PrefixFits w) is (all (i - 1) c there)

pub placed : {C : Type 0} {before after code : ℕ} (w : ℕ) (held : C → Network) (list : List C) (x : ℕ)
    → All (λ c. PrefixFits w (held c)) list → TableQuery w held list x before after code
    → FindsLongest w (map held list) x after
    ⊎ ((after ≡ before) × (IsTable w (map held list) → ¬ (InUnion w (map held list) x)))
placed w held list x all (i, _, Nothing (not, _) _) = absurd (not (fits_last w held list i all))
placed w held list x all (i, _, On (_, Nothing ((_, none), _) same)) = inr (same, none)
placed w held list x all (i, _, On (_, On (_, (_, finds)))) = inl finds

-- the fault that such a search returns fits a byte
pub range_fault_is_byte : {C : Type 0} {before after code : ℕ} (held : C → Network) (ranges : List C) (places : List ℕ)
    (x : ℕ) → RangeQuery held ranges places x before after code → code < 256
range_fault_is_byte _ _ _ _ (_, _, Nothing (_, is) _) = omega (arith, is)
range_fault_is_byte _ _ _ _ (_, _, On (is, _)) = omega (arith, is)

-- ---- the ranges of a whole table

-- one more place for the ranges
pub place_put : (w : ℕ) (table : List Network) (firsts places : List ℕ) (row new : ℕ)
    → ArePlacesUpTo w table firsts places row → row < length places → IsLongestAt w table (get_or firsts row 0) new
    → ArePlacesUpTo w table firsts (slice_set places row new) (row + 1)
place_put w table firsts places row new so_far below is = λ k l.
    ⊎_elim
    (λ (less : k < row).
    let apart : k ≢ row = λ e. omega (arith, e, less) in
    subst (IsLongestAt w table (get_or firsts k 0)) (sym (get_or-set_other places row k new 0 apart)) (so_far k less))
    (λ (more : row ≤ k).
    let here : row ≡ k = omega (arith, l, more) in
    subst (λ (j : ℕ). IsLongestAt w table (get_or firsts j 0) (get_or (slice_set places row new) j 0)) here
    (subst (IsLongestAt w table (get_or firsts row 0)) (sym (get_or-set_same places row new 0 below)) is))
    (cases_lt k row)

pub front_taken : {X : Type 0} (front rest : List X) (n : ℕ) → length front ≡ n → take n (front ++ rest) ≡ front
front_taken front rest n is = ap (λ k. take k (front ++ rest)) (sym is) ∙ take-append_seam front rest

front_dropped : {X : Type 0} (front rest : List X) (n : ℕ) → length front ≡ n → drop n (front ++ rest) ≡ rest
front_dropped front rest n is = ap (λ k. drop k (front ++ rest)) (sym is) ∙ drop-append_seam front rest

fused : {C : Type 0} (held : C → Network) (xs : List C) → map (λ n. n.address) (map held xs) ≡ firsts held xs
fused held [] = refl
fused held (x ∷ xs) = ap (λ ys. (held x).address ∷ ys) (fused held xs)

pub ranges_made : {C : Type 0} (w : ℕ) (holds : C → Type 0) (held : C → Network) (list cuts sorted : List C)
    (put : List ℕ) → AreCutsOf w holds held (map held list) (length list) cuts → IsPermutation cuts sorted
    → AreInOrder (map held sorted) → length put ≡ length sorted → ArePlacesUpTo w (map held list) (firsts held sorted)
    put (length sorted) → AreMadeOf w (map held list) (map held sorted) put
ranges_made {C} w holds held list cuts sorted put are moved order size beside =
    let table : List Network = map held list in
    let ranges : List Network = map held sorted in
    let table_size : length table ≡ length list = length-map list held in
    let ranges_size : length ranges ≡ length sorted = length-map sorted held in
    let sorted_size : length sorted ≡ length cuts = length_permutation cuts sorted moved in
    let few = are.few in
    let same : map (λ n. n.address) ranges ≡ firsts held sorted = fused held sorted in
    let into : (a : ℕ) → Contains (firsts held cuts) a → Contains (map (λ n. n.address) ranges) a = λ a c.
    subst (λ (xs : List ℕ). Contains xs a) (sym same) (Contains-permutation (firsts held cuts) (firsts held sorted) a
    (IsPermutation-map (λ c. (held c).address) cuts sorted moved) c) in
    let back : (a : ℕ) → Contains (map (λ n. n.address) ranges) a → Contains (firsts held cuts) a = λ a c.
    Contains-permutation (firsts held sorted) (firsts held cuts) a (IsPermutation-sym (firsts held cuts)
    (firsts held sorted) (IsPermutation-map (λ c. (held c).address) cuts sorted moved))
    (subst (λ (xs : List ℕ). Contains xs a) same c) in
    let alone = All-permutation (IsAlone w holds held) cuts sorted moved are.alone in
    let up : AllPairs (λ a b. a.address ≤ b.address) ranges = ascends ranges order in
    let at : (k : ℕ) (d : Network) → k < length table → CutsAt w (map (λ n. n.address) ranges) (get_or table k d) =
    λ k d l. record {
      network = are.network k d (omega (arith, l, table_size));
      begun = into (low w (get_or table k d)) (are.begun k d (omega (arith, l, table_size)));
      ended = λ fits. into (high w (get_or table k d) + 1) (are.ended k d (omega (arith, l, table_size)) fits);
    } in
    record {
      each = λ i l. subst (λ (xs : List ℕ). IsLongestAt w table (get_or xs i 0) (get_or put i 0)) (sym same)
          (beside i (omega (arith, l, ranges_size)));
      ranges_of = record {
        few = omega (arith, few, table_size, ranges_size, sorted_size);
        rows = size ∙ sym ranges_size;
        alone = All-map (λ (n : Network). n.prefix ≡ w) held sorted (λ k d l. (alone k d l).prefix);
        ascending = up;
        cut = λ a fits c.
            let n : Network = c.0 in
            let k : ℕ = c.1.0 in
            let is : get_or table k n ≡ n = c.1.2 in
            let cuts_it : CutsAt w (map (λ n. n.address) ranges) n =
            subst (CutsAt w (map (λ n. n.address) ranges)) is (at k n c.1.1) in
            ⊎_elim
            (λ (e : a ≡ low w n). subst (Contains (map (λ n. n.address) ranges)) (sym e) cuts_it.begun)
            (λ (e : a ≡ high w n + 1). subst (Contains (map (λ n. n.address) ranges)) (sym e)
            (cuts_it.ended (omega (arith, e, fits))))
            c.2;
        only = λ a c. are.only a (back a c);
        answers = λ x i fits stands.
            answers_all w table ranges put x i at up (size ∙ sym ranges_size)
            (λ k d l.
            let there : k < length sorted = omega (arith, l, ranges_size) in
            let first : get_or (firsts held sorted) k 0 ≡ (get_or ranges k d).address =
            ap (λ xs. get_or xs k 0) (sym same) ∙ get_or-map (λ (n : Network). n.address) ranges k d 0 l in
            subst (λ (a : ℕ). IsLongestAt w table a (get_or put k 0)) first (beside k there))
            fits stands;
      };
    }

-- the ranges and places are put at the fronts of two lists
pub made : {C : Type 0} (w : ℕ) (holds : C → Type 0) (held : C → Network) (list before cut sorted : List C)
    (places put : List ℕ) (count count_before : ℕ) → All (λ c. PrefixFits w (held c)) list
    → 2 * length list ≤ length before → 2 * length list ≤ length places → IsWrittenUpTo before cut count
    → AreCutsOf w holds held (map held list) (length list) (take count cut) → IsPermutation (take count cut) sorted
    → AreInOrder (map held sorted) → length put ≡ count → count ≤ length places
    → ArePlacesUpTo w (map held list) (firsts held sorted) put count
    → MakesRanges w held list ((before, places), count_before)
    ((sorted ++ drop count cut, put ++ drop count places), count) 0
made {C} w holds held list before cut sorted places put count count_before fits room places_room written are moved order
    put_size within beside =
    let cut_size : length (take count cut) ≡ count = length-take-le count cut written.within in
    let size : length sorted ≡ count = length_permutation (take count cut) sorted moved ∙ cut_size in
    let front : take count (sorted ++ drop count cut) ≡ sorted = front_taken sorted (drop count cut) count size in
    let front_places : take count (put ++ drop count places) ≡ put =
    front_taken put (drop count places) count put_size in
    let is = ranges_made w holds held list (take count cut) sorted put are moved order (put_size ∙ sym size)
    (subst (λ (n : ℕ). ArePlacesUpTo w (map held list) (firsts held sorted) put n) (sym size) beside) in
    let there = written.within in
    let whole : length (sorted ++ drop count cut) ≡ length before =
    length-append sorted (drop count cut) ∙ ap (λ n. n + length (drop count cut)) (size ∙ sym cut_size) ∙ sym
    (length-append (take count cut) (drop count cut)) ∙ ap length (take-append-drop count cut) ∙ written.size in
    let whole_places : length (put ++ drop count places) ≡ length places =
    length-append put (drop count places)
    ∙ ap (λ n. n + length (drop count places)) (put_size ∙ sym (length-take-le count places within))
    ∙ sym (length-append (take count places) (drop count places)) ∙ ap length (take-append-drop count places) in
    let fronts : AreMadeOf w (map held list) (map held (take count (sorted ++ drop count cut)))
    (take count (put ++ drop count places)) =
    subst (λ (xs : List C). AreMadeOf w (map held list) (map held xs) (take count (put ++ drop count places)))
    (sym front)
    (subst (λ (ys : List ℕ). AreMadeOf w (map held list) (map held sorted) ys) (sym front_places) is) in
    let size_before = written.size in
    On (
      fits,
      On (
        (room, places_room),
        (
          refl,
          (
            whole,
            whole_places,
            omega (arith, there, size_before),
            fronts,
            front_dropped sorted (drop count cut) count size ∙ written.rest,
            front_dropped put (drop count places) count put_size,
          ),
        ),
      ),
    )
