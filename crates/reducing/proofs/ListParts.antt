-- The least number of others in lists that are put together.
use Rattle.reducing.proofs.Words.{◌≡◌, ℕ, ◌-◌, ◌^◌, ◌<◌, ◌≤◌, ◌⊎◌, ◌++◌, ◌∷◌, [], List, length, min, refl, sym, ap, subst, ◌∙◌, append_assoc, arith, ⊎_elim, inl, inr, Option, Some, None, pow-le-pow_right, Network, block_size, size_pos, joined, others, AllNeighbours, Joins, no_pair, least, IsSpanOf, IsSpan, DoMeet, IsBetween, JoinsFirst, alone, Span}

least_at_most : (w : ℕ) (xs : List Network) → least w xs ≤ no_pair
least_at_most w [] = omega arith
least_at_most w (a ∷ []) = omega arith
least_at_most w (a ∷ b ∷ xs) = omega (arith, least_at_most w (b ∷ xs))

pub least_around : (w : ℕ) (xs : List Network) (a b : Network) (ys : List Network)
    → least w (xs ++ a ∷ b ∷ ys) ≡ min (min (others w a b) (least w (xs ++ a ∷ []))) (least w (b ∷ ys))
least_around w [] a b ys = omega (arith, least_at_most w (b ∷ ys))
least_around w (x ∷ []) a b ys = omega (arith, least_at_most w (b ∷ ys))
least_around w (x ∷ y ∷ xs) a b ys = omega (arith, least_around w (y ∷ xs) a b ys)

-- front ++ back, where the lists meet
meeting : (before behind front back : List Network) (a b : Network) → front ≡ before ++ a ∷ [] → back ≡ b ∷ behind
    → front ++ back ≡ before ++ a ∷ b ∷ behind
meeting before behind front back a b e f =
    subst (λ (u : List Network). front ++ u ≡ before ++ a ∷ b ∷ behind) (sym f)
    (subst (λ (u : List Network). u ++ b ∷ behind ≡ before ++ a ∷ b ∷ behind) (sym e)
    (append_assoc before (a ∷ []) (b ∷ behind)))

pub append_nothing : (xs : List Network) → xs ++ [] ≡ xs
append_nothing [] = refl
append_nothing (x ∷ xs) = ap (λ r. x ∷ r) (append_nothing xs)

pub least_of_both : (w : ℕ) (front back : List Network) (k : ℕ) → IsBetween w front back k
    → least w (front ++ back) ≡ min (min k (least w front)) (least w back)
least_of_both w front back k h =
    let Goal : Type 0 = least w (front ++ back) ≡ min (min k (least w front)) (least w back) in
    ⊎_elim
    (λ (m : DoMeet w front back k).
    let whole = ap (least w) (meeting m.before m.behind front back m.a m.b m.ends m.begins) in
    let r : Goal = omega (
      arith,
      whole,
      m.others_are,
      least_around w m.before m.a m.b m.behind,
      ap (least w) m.ends,
      ap (least w) m.begins,
    ) in r)
    (λ (n : (k ≡ no_pair) × ((front ≡ []) ⊎ (back ≡ []))).
    let r : Goal = ⊎_elim
    (λ (e : front ≡ []). let whole = ap (λ u. least w (u ++ back)) e in
    let s : Goal = omega (arith, whole, n.0, ap (least w) e, least_at_most w back) in s)
    (λ (e : back ≡ []).
    let whole = ap (λ u. least w (front ++ u)) e ∙ ap (least w) (append_nothing front) in
    let s : Goal = omega (arith, whole, n.0, ap (least w) e, least_at_most w front) in s)
    n.1 in r)
    h

-- ---- lists that are put together

pub spans_meet : (w : ℕ) (first second : List Network) (a b c d : Network) (j k : ℕ) → IsSpanOf w first a b j
    → IsSpanOf w second c d k → DoMeet w first second (others w b c)
spans_meet w first second a b c d j k f s = record {
  before = f.before;
  a = b;
  b = c;
  behind = s.behind;
  ends = f.ends;
  begins = s.begins;
  others_are = refl;
}

pub span_of_both : (w : ℕ) (first second : List Network) (a b c d : Network) (j k : ℕ) → IsSpanOf w first a b j
    → IsSpanOf w second c d k → IsSpanOf w (first ++ second) a d (min (min (others w b c) j) k)
span_of_both w first second a b c d j k f s = record {
  behind = f.behind ++ second;
  before = first ++ s.before;
  begins = ap (λ u. u ++ second) f.begins;
  ends = ap (λ u. first ++ u) s.ends ∙ sym (append_assoc first s.before (d ∷ []));
  least_is = omega (
    arith,
    f.least_is,
    s.least_is,
    least_of_both w first second (others w b c) (inl (spans_meet w first second a b c d j k f s)),
  );
}

-- ---- joins in lists that are put together

pub join_in_front : (w : ℕ) (front next back : List Network) (k : ℕ) → JoinsFirst w front next k
    → JoinsFirst w (front ++ back) (next ++ back) k
join_in_front w front next back k j = record {
  before = j.before;
  a = j.a;
  b = j.b;
  behind = j.behind ++ back;
  list_is = ap (λ u. u ++ back) j.list_is ∙ append_assoc j.before (j.a ∷ j.b ∷ j.behind) back;
  next_is = ap (λ u. u ++ back) j.next_is ∙ append_assoc j.before (joined w j.a j.b ∷ j.behind) back;
  others_are = j.others_are;
  first = j.first;
}

pub join_between : (w : ℕ) (before behind : List Network) (a b : Network) (k : ℕ) (front back : List Network)
    → front ≡ before ++ a ∷ [] → back ≡ b ∷ behind → k ≡ others w a b → k < least w front
    → JoinsFirst w (front ++ back) (before ++ joined w a b ∷ behind) k
join_between w before behind a b k front back ends begins is more = record {
  before = before;
  a = a;
  b = b;
  behind = behind;
  list_is = meeting before behind front back a b ends begins;
  next_is = refl;
  others_are = is;
  first = subst (λ (u : List Network). k < least w u) ends more;
}

-- the list up to a, which has a neighbour, begins as the whole list
begins_too : (before : List Network) (a b : Network) (behind : List Network) (c : Network) (rest : List Network)
    → before ++ a ∷ b ∷ behind ≡ c ∷ rest → (r : List Network) × (before ++ a ∷ [] ≡ c ∷ r)
begins_too [] a b behind c rest e = let same : a ≡ c = cc in ([], ap (λ x. x ∷ []) same)
begins_too (x ∷ before) a b behind c rest e =
    let same : x ≡ c = cc in (before ++ a ∷ [], ap (λ y. y ∷ (before ++ a ∷ [])) same)

pub not_nothing : (before : List Network) (a : Network) (behind : List Network) → before ++ a ∷ behind ≡ [] → ⊥
not_nothing [] a behind e = cc
not_nothing (x ∷ before) a behind e = cc

between_too : (w : ℕ) (front back : List Network) (n : ℕ) (before : List Network) (a b : Network)
    (behind : List Network)
    → back ≡ before ++ a ∷ b ∷ behind → IsBetween w front back n → IsBetween w front (before ++ a ∷ []) n
between_too w front back n before a b behind is between =
    let Goal : Type 0 = IsBetween w front (before ++ a ∷ []) n in
    ⊎_elim
    (λ (m : DoMeet w front back n).
    let begins = begins_too before a b behind m.b m.behind (sym is ∙ m.begins) in
    let r : Goal = inl (record {
      before = m.before;
      a = m.a;
      b = m.b;
      behind = begins.0;
      ends = m.ends;
      begins = begins.1;
      others_are =
          m.others_are;
    }) in r)
    (λ (none : (n ≡ no_pair) × ((front ≡ []) ⊎ (back ≡ []))).
    let r : Goal = ⊎_elim
    (λ (e : front ≡ []). let s : Goal = inr (none.0, inl e) in s)
    (λ (e : back ≡ []). let s : Goal = absurd (not_nothing before a (b ∷ behind) (sym is ∙ e)) in s)
    none.1 in r)
    between

-- the pairs before a join in the second list are those of the first list, the one between the lists, and those before
-- the join in the second list
before_join : (w : ℕ) (front back : List Network) (k n : ℕ) (before : List Network) (a b : Network)
    (behind : List Network)
    → back ≡ before ++ a ∷ b ∷ behind → IsBetween w front back n → k < n → k < least w front
    → k < least w (before ++ a ∷ [])
    → k < least w (front ++ before ++ a ∷ [])
before_join w front back k n before a b behind is between more more_front more_back =
    let whole = ap (least w) (append_assoc front before (a ∷ [])) in
    omega (
      arith,
      whole,
      least_of_both w front (before ++ a ∷ []) n
          (between_too w front back n before a b behind is between),
    )

pub join_in_back : (w : ℕ) (front back next : List Network) (k n : ℕ) → IsBetween w front back n → k < n
    → k < least w front
    → JoinsFirst w back next k → JoinsFirst w (front ++ back) (front ++ next) k
join_in_back w front back next k n between more more_front j = record {
  before = front ++ j.before;
  a = j.a;
  b = j.b;
  behind = j.behind;
  list_is = ap (λ u. front ++ u) j.list_is ∙ sym (append_assoc front j.before (j.a ∷ j.b ∷ j.behind));
  next_is = ap (λ u. front ++ u) j.next_is ∙ sym (append_assoc front j.before (joined w j.a j.b ∷ j.behind));
  others_are = j.others_are;
  first = before_join w front back k n j.before j.a j.b j.behind j.list_is between more more_front j.first;
}

-- ---- pairs that have more others

all_above : (w k : ℕ) (xs : List Network) → k ≤ least w xs → AllNeighbours (λ c d. k ≤ others w c d) xs
all_above w k [] h = tt
all_above w k (a ∷ []) h = tt
all_above w k (a ∷ b ∷ xs) h = (omega arith, all_above w k (b ∷ xs) (omega arith))

all_more : (w k : ℕ) (xs : List Network) → k < least w xs → AllNeighbours (λ c d. k < others w c d) xs
all_more w k [] h = tt
all_more w k (a ∷ []) h = tt
all_more w k (a ∷ b ∷ xs) h = (omega arith, all_more w k (b ∷ xs) (omega arith))

pub joins_of : (w : ℕ) (list next : List Network) (k : ℕ) → k ≡ least w list → JoinsFirst w list next k
    → Joins w list next k
joins_of w list next k is j = record {
  before = j.before;
  a = j.a;
  b = j.b;
  behind = j.behind;
  list_is = j.list_is;
  next_is = j.next_is;
  others_are = j.others_are;
  least = all_above w k list (omega (arith, is));
  first = all_more w k (j.before ++ j.a ∷ []) j.first;
}

-- there is a pair only if it has fewer others than no pair
few_others : (w : ℕ) (a b : Network) → w ≤ 128 → others w a b < no_pair
unfolding others no_pair
few_others w a b h =
    let all : block_size w (joined w a b).prefix ≤ 2 ^ 128 =
    pow-le-pow_right {n = 2} (omega arith) {i = w - (joined w a b).prefix} {j = 128} (omega arith) in
    omega (arith, all, size_pos w a.prefix, size_pos w b.prefix)

pub no_neighbours : (w : ℕ) (xs : List Network) → w ≤ 128 → no_pair ≤ least w xs → length xs ≤ 1
no_neighbours w [] few h = omega arith
no_neighbours w (a ∷ []) few h = omega arith
no_neighbours w (a ∷ b ∷ xs) few h = let less = few_others w a b few in absurd (omega arith)

-- ---- spans

pub max_is : no_pair ≡ 340282366920938463463374607431768211455
unfolding no_pair
max_is = refl

pub span_of_one : {X : Type 0} (w : ℕ) (pair : X → Network) (block : Option X) (x : X) → block ≡ Some x
    → IsSpanOf w (alone pair block) (pair x) (pair x) 340282366920938463463374607431768211455
span_of_one w pair block x is =
    subst (λ (o : Option _). IsSpanOf w (alone pair o) (pair x) (pair x) 340282366920938463463374607431768211455)
    (sym is)
    (record { behind = []; before = []; begins = refl; ends = refl; least_is = sym max_is })

pub nothing_in : {X : Type 0} (w : ℕ) (pair : X → Network) (list : List Network) (span : Option (Span X)) → span ≡ None
    → IsSpan w pair list span → list ≡ []
nothing_in w pair list span is h = subst (λ (o : Option (Span _)). IsSpan w pair list o) is h

pub something_in : {X : Type 0} (w : ℕ) (pair : X → Network) (list : List Network) (span : Option (Span X)) (s : Span X)
    → span ≡ Some s
    → IsSpan w pair list span → IsSpanOf w list (pair s.first) (pair s.last) s.least
something_in w pair list span s is h = subst (λ (o : Option (Span _)). IsSpan w pair list o) is h

pub span_followed : {X : Type 0} (w : ℕ) (pair : X → Network) (first second : List Network)
    (front back : Option (Span X)) (f b : Span X) (k : ℕ)
    → front ≡ Some f → back ≡ Some b → k ≡ min (min (others w (pair f.last) (pair b.first)) f.least) b.least
    → IsSpan w pair first front → IsSpan w pair second back
    → IsSpanOf w (first ++ second) (pair f.first) (pair b.last) k
span_followed w pair first second front back f b k is_f is_b is hf hb =
    subst (λ (m : ℕ). IsSpanOf w (first ++ second) (pair f.first) (pair b.last) m) (sym is)
    (span_of_both w first second (pair f.first) (pair f.last) (pair b.first) (pair b.last) f.least b.least
    (something_in w pair first front f is_f hf) (something_in w pair second back b is_b hb))
