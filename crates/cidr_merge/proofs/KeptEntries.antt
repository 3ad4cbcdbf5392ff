-- The earlier elements that are kept while a list is swept: all for which a test with a later element may hold.
use Rattle.cidr_merge.proofs.Words.{◌≡◌, ◌+◌, ◌-◌, ◌<◌, ◌≤◌, ◌∙◌, ℕ, Bool, true, false, List, [], ◌∷◌, ◌++◌, refl, sym, ap, subst, arith, inl, inr, cond, length, take, drop, get_or, set, filter, ◌⊎◌, SwappedAt, cases_lt, take_more, take_more_set, take-set, take-set-le, drop-set-lt, drop-drop, get_or-drop, get_or_default, length-set, filter-append}

-- filtering by a test, then by a stricter one, is filtering by the stricter one
kept_again : {X : Type 0} (p q : X → Bool) (xs : List X) → ((x : X) → q x ≡ true → p x ≡ true)
    → filter q (filter p xs) ≡ filter q xs
kept_again p q [] h = refl
kept_again p q (x ∷ xs) h = by (kept_again p q xs h) (p x) (q x) refl refl where
  by : filter q (filter p xs) ≡ filter q xs → (a b : Bool) → p x ≡ a → q x ≡ b
      → filter q (filter p (x ∷ xs)) ≡ filter q (x ∷ xs)
  by k true b e f =
      ap (λ c. filter q (cond c (x ∷ filter p xs) (filter p xs))) e
      ∙ ap (λ l. cond (q x) (x ∷ l) l) k
  by k false true e f = absurd (let g = h x f in cc)
  by k false false e f =
      ap (λ c. filter q (cond c (x ∷ filter p xs) (filter p xs))) e ∙ k
      ∙ sym (ap (λ c. cond c (x ∷ filter q xs) (filter q xs)) f)

-- the element at a place was swapped with the one at `count`, after the first `count` elements
module _ {X : Type 0} (mid new : List X) (count place : ℕ) (x : X)
    (swapped : SwappedAt mid new count place) (l : count ≤ place) (within : place < length mid)
    (is : x ≡ get_or mid place x) where
  front : take (count + 1) new ≡ take count mid ++ x ∷ []
  front = ap (take (count + 1)) (swapped.3 x) ∙ by (cases_lt count place) where
    by : ((count < place) ⊎ (place ≤ count))
        → take (count + 1) (set (set mid count (get_or mid place x)) place
        (get_or mid count x)) ≡ take count mid ++ x ∷ []
    by (inl less) =
        take-set-le (count + 1) (set mid count (get_or mid place x)) place (get_or mid count x)
        (omega (arith, less))
        ∙ take_more_set mid count (get_or mid place x) (omega (arith, less, within))
        ∙ ap (λ y. take count mid ++ y ∷ []) (sym is)
    by (inr more) = let same : place ≡ count = omega (arith, l, more) in
        ap (λ p. take (count + 1) (set (set mid count (get_or mid p x)) p
        (get_or mid count x))) same
        ∙ take_more_set (set mid count (get_or mid count x)) count (get_or mid count x)
        (omega (arith, within, same, length-set mid count (get_or mid count x)))
        ∙ ap (λ t. t ++ get_or mid count x ∷ []) (take-set mid count (get_or mid count x))
        ∙ ap (λ p. take count mid ++ get_or mid p x ∷ []) (sym same)
        ∙ ap (λ y. take count mid ++ y ∷ []) (sym is)

  rest : drop (place + 1) new ≡ drop (place + 1) mid
  rest = ap (drop (place + 1)) (swapped.3 x) ∙ drop-set-lt (place + 1)
      (set mid count (get_or mid place x)) place (get_or mid count x) (omega arith)
      ∙ drop-set-lt (place + 1) mid count (get_or mid place x) (omega (arith, l))

-- nothing after the two has changed
pub swapped_rest : {X : Type 0} (mid new : List X) (count place : ℕ) → SwappedAt mid new count place
    → count ≤ place → place < length mid → drop (place + 1) new ≡ drop (place + 1) mid
swapped_rest [] new count place swapped l within = absurd (omega (arith, within))
swapped_rest (x ∷ mid) new count place swapped l within =
    ap (drop (place + 1)) (swapped.3 x) ∙ drop-set-lt (place + 1)
    (set (x ∷ mid) count (get_or (x ∷ mid) place x)) place (get_or (x ∷ mid) count x) (omega arith)
    ∙ drop-set-lt (place + 1) (x ∷ mid) count (get_or (x ∷ mid) place x) (omega (arith, l))

-- lists that are the same from one place on are the same from a later one
pub same_further : {X : Type 0} (a b : List X) (from to : ℕ) → from ≤ to → drop from a ≡ drop from b
    → drop to a ≡ drop to b
same_further a b from to l e =
    let at : from + (to - from) ≡ to = omega (arith, l) in
    ap (λ n. drop n a) (sym at) ∙ sym (drop-drop (to - from) from a) ∙ ap (drop (to - from)) e
    ∙ drop-drop (to - from) from b ∙ ap (λ n. drop n b) at

-- the list before and now, and the elements kept in it
pub record Swept {X : Type 0} (r : X → X → Bool) (old now : List X) (kept place : ℕ) : Type 0 where
  pub ahead : drop place now ≡ drop place old
  pub long : length now ≡ length old
  pub within : kept ≤ place
  pub same : (j : ℕ) (d : X) → place ≤ j → j < length old
      → filter (r (get_or old j d)) (take kept now) ≡ filter (r (get_or old j d)) (take place old)

-- if the test holds for an element of the list, with a given second argument, it holds for all earlier elements
abbrev pub Falls : {X : Type 0} → (X → X → Bool) → List X → Type 0
Falls {X} r old =
    (i j : ℕ) (d e : X) → i ≤ j → j < length old → r (get_or old j d) e ≡ true
    → r (get_or old i d) e ≡ true

-- an element that is not before the place is as it was
pub as_it_was : {X : Type 0} (old now : List X) (place j : ℕ) (d : X)
    → drop place now ≡ drop place old → place ≤ j → get_or now j d ≡ get_or old j d
as_it_was old now place j d e l =
    let at : place + (j - place) ≡ j = omega (arith, l) in
    ap (λ k. get_or now k d) (sym at) ∙ sym (get_or-drop place now (j - place) d)
    ∙ ap (λ l. get_or l (j - place) d) e ∙ get_or-drop place old (j - place) d
    ∙ ap (λ k. get_or old k d) at

module _ {X : Type 0} (r : X → X → Bool) (old now mid new : List X) (kept place count : ℕ) (x : X)
    (falls : Falls r old) (h : Swept r old now kept place) (l : place < length old)
    (is : x ≡ get_or mid place x) (f : take count mid ≡ filter (r x) (take kept now))
    (ahead : drop place mid ≡ drop place now) (long : length mid ≡ length now)
    (fewer : count ≤ kept)
    (swapped : SwappedAt mid new count place) (len : length new ≡ length mid) where
  was : x ≡ get_or old place x
  was = is ∙ as_it_was now mid place place x ahead (omega arith)
      ∙ as_it_was old now place place x h.ahead (omega arith)

  asks : (j : ℕ) (d : X) → place + 1 ≤ j → j < length old
      → filter (r (get_or old j d)) (take (count + 1) new) ≡ filter (r (get_or old j d))
      (take (place + 1) old)
  asks j d m n =
      let q = r (get_or old j d) in
      let stricter : (e : X) → q e ≡ true → r x e ≡ true =
      λ e t. subst (λ y. r y e ≡ true) (sym (was ∙ get_or_default old place x d l))
      (falls place j d e (omega (arith, m)) n t) in
      ap (filter q) (front mid new count place x swapped (omega (arith, fewer, h.within))
      (omega (arith, l, long, h.long)) is) ∙ filter-append q (take count mid) (x ∷ [])
      ∙ ap (λ ys. filter q ys ++ filter q (x ∷ [])) f ∙ ap (λ ys. ys ++ filter q (x ∷ []))
      (kept_again (r x) q (take kept now) stricter ∙ h.same j d (omega (arith, m)) n)
      ∙ sym (filter-append q (take place old) (x ∷ []))
      ∙ ap (λ y. filter q (take place old ++ y ∷ [])) was
      ∙ ap (filter q) (sym (take_more old place x l))

  pub swept_more : Swept r old new (count + 1) (place + 1)
  swept_more = record {
    ahead = rest mid new count place x swapped (omega (arith, fewer, h.within))
        (omega (arith, l, long, h.long)) is ∙ further mid now ahead ∙ further now old h.ahead;
    long = len ∙ long ∙ h.long;
    within = omega (arith, fewer, h.within);
    same = asks;
  } where
    further : (a b : List X) → drop place a ≡ drop place b → drop (place + 1) a ≡ drop (place + 1) b
    further a b e = sym (drop-drop 1 place a) ∙ ap (drop 1) e ∙ drop-drop 1 place b
