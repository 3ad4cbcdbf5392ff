-- How a tally counts a text several times.
use Rattle.cidr_join.proofs.Words.{◌≡◌, ℕ, zero, suc, ◌+◌, ◌-◌, ◌*◌, ◌^◌, ◌<◌, ◌≤◌, Bool, true, false, true≢false, cond, List, [], ◌∷◌, ◌++◌, inl, inr, refl, sym, ap, subst, ◌∙◌, arith, min, replicate, None, Some, Vec, nat_eq, pointwise, bytes_decides, nat_list_eq_equiv, HashMap, UpdatesBy, count_by, sum_by, IsDistinct, AllByRecursion, slice_index_or, IsPermutation, IsSortedBy, unwrap_or, is_some, is_lt, Reverse, lookup, keys_of, IsKeyTest, AreApart, KeepsOthers, bytes_eq, cases_Bool, cond-true, cond-false, get_or-map, length-map, IsPermutation-map, sum_by-IsPermutation, sum_by-replicate, sum_by-append, sum_by-cons, none-some, Row, count_of, counted_by, row_cmp, IsTally, found_for, some_count, row_of, named_if, Counted, CountsTexts}
use Rattle.std.specs.Prelude.{map, length}
use Rattle.cidr_join.specs.Tallies.{rows_of}

-- an entry of the map as a row
abbrev pub entry_row : {Z : Type 0} → Vec ℕ Z × ℕ → Row
entry_row entry = record { count = entry.1; text = entry.0.items }

-- ---- a text is found by its bytes

abbrev same_items : {Z : Type 0} → Vec ℕ Z → Vec ℕ Z → Bool
same_items x y = pointwise nat_eq x.items y.items

other_found : {K X : Type 0} (eq : K → K → Bool) (test : K → Bool) (old new : List (K × X))
    → KeepsOthers eq test old new
    → (other : K → Bool) → IsKeyTest eq other → AreApart test other → lookup other new ≡ lookup other old
unfolding KeepsOthers
other_found eq test old new h = h

apart : (text other key : List ℕ) → bytes_eq text other ≡ false → bytes_eq text key ≡ true → bytes_eq other key ≡ false
apart text other key differ same = nat_list_eq_equiv.symm other key
    ∙ sym (nat_list_eq_equiv.congr text key other same) ∙ differ

module _ {Z S : Type 0} (text : List ℕ) (old new : HashMap (Vec ℕ Z) ℕ S) (count : ℕ)
    (h : UpdatesBy same_items (λ key. pointwise nat_eq text key.items) old new (Some count)) where
  found_here : found_for new text ≡ Some count
  found_here = h.1

  found_else : (other : List ℕ) → bytes_eq text other ≡ false → found_for new other ≡ found_for old other
  found_else other differ =
      other_found _ _ _ _ h.3 _ (λ x y. nat_list_eq_equiv.congr other x.items y.items)
      (λ key. apart text other key.items differ)

-- ---- counts

some_is : (number count was : ℕ) → some_count number count ≡ Some was → count ≡ was
some_is zero count was e = absurd (none-some was e)
some_is (suc number) count was e = cc

none_is : (number count : ℕ) → some_count number count ≡ None → number ≡ 0
none_is zero count e = refl
none_is (suc number) count e = absurd (none-some count (sym e))

some_at : (number count : ℕ) → 0 < number → some_count number count ≡ Some count
some_at zero count h = absurd (omega (arith, h))
some_at (suc number) count h = refl

pub count_both : (text : List ℕ) (first second : List (List ℕ))
    → count_by (bytes_eq text) (first ++ second) ≡ count_by (bytes_eq text) first + count_by (bytes_eq text) second
count_both text first second = sum_by-append _ first second

count_more : (other text : List ℕ) (texts : List (List ℕ)) (n : ℕ) → count_by (bytes_eq other)
    (texts ++ replicate n text) ≡ count_by (bytes_eq other) texts + n * cond (bytes_eq other text) 1 0
count_more other text texts n =
    sum_by-append _ texts (replicate n text) ∙ ap (λ k. count_by (bytes_eq other) texts + k)
    (sum_by-replicate (λ mark. cond (bytes_eq other mark) 1 0) n text)

same_here : (text : List ℕ) (texts : List (List ℕ)) (n : ℕ)
    → count_by (bytes_eq text) (texts ++ replicate n text) ≡ count_by (bytes_eq text) texts + n
same_here text texts n =
    let more = count_more text text texts n
    ∙ ap (λ b. count_by (bytes_eq text) texts + n * cond b 1 0) (nat_list_eq_equiv.refl text) in
    omega (arith, more)

same_else : (other text : List ℕ) (texts : List (List ℕ)) (n : ℕ) → bytes_eq text other ≡ false
    → count_by (bytes_eq other) (texts ++ replicate n text) ≡ count_by (bytes_eq other) texts
same_else other text texts n differ =
    let none = count_more other text texts n ∙ ap (λ b. count_by (bytes_eq other) texts + n * cond b 1 0)
    (nat_list_eq_equiv.symm other text ∙ differ) in
    omega (arith, none)

-- a named text counts as one more
named_is : (named : Bool) (text : List ℕ) → named_if named text ≡ replicate (cond named 1 0) text
named_is true text = refl
named_is false text = refl

pub some_named : (n : ℕ) (named : Bool) → named ≡ true → 1 ≤ cond named 1 0 + n
some_named n true h = omega arith
some_named n false h = absurd (true≢false (sym h))

pub some_counted : (n : ℕ) (named : Bool) → ¬ (n ≡ 0) → 1 ≤ cond named 1 0 + n
some_counted zero named h = absurd (h refl)
some_counted (suc n) named h = omega arith

module _ {Z S : Type 0} (text : List ℕ) (old new : HashMap (Vec ℕ Z) ℕ S) (n count : ℕ) (named : Bool)
    (some : 1 ≤ cond named 1 0 + n)
    (h : UpdatesBy same_items (λ key. pointwise nat_eq text key.items) old new (Some count)) where
  counts_so_often : ((names texts : List (List ℕ)) → Counted names texts old → min (count_by (bytes_eq text) texts + n)
      (2 ^ 64 - 1) ≡ count) → CountsTexts (named_if named text) (replicate n text) old new
  counts_so_often one names texts counted other =
      let all = names ++ named_if named text in
      let more = texts ++ replicate n text in
      let whole = λ (t : List ℕ). count_both t all more in
      elim (cases_Bool (bytes_eq text other)) [
        | inl same ↦
            let is : text ≡ other = (bytes_decides text other).0 same in
            let times : count_by (bytes_eq text) all ≡ count_by (bytes_eq text) names + cond named 1 0 =
            ap (λ (l : List (List ℕ)). count_by (bytes_eq text) (names ++ l)) (named_is named text)
            ∙ same_here text names (cond named 1 0) in
            let sum : count_of text more ≡ count = ap (λ k. min k (2 ^ 64 - 1)) (same_here text texts n)
            ∙ one names texts counted in
            subst (λ (t : List ℕ). found_for new t ≡ some_count (count_by (bytes_eq t) (all ++ more)) (count_of t more))
            is
            (found_here text old new count h ∙ sym (some_at (count_by (bytes_eq text) (all ++ more))
            (count_of text more) (omega (arith, whole text, times, same_here text texts n, some)) ∙ ap Some sum))
        | inr differ ↦
            let times : count_by (bytes_eq other) all ≡ count_by (bytes_eq other) names =
            ap (λ (l : List (List ℕ)). count_by (bytes_eq other) (names ++ l)) (named_is named text)
            ∙ same_else other text names (cond named 1 0) differ in
            let sum : count_by (bytes_eq other) more ≡ count_by (bytes_eq other) texts =
            same_else other text texts n differ in
            let among : count_by (bytes_eq other) (names ++ texts) ≡ count_by (bytes_eq other) (all ++ more) =
            omega (arith, count_both other names texts, whole other, times, sum) in
            found_else text old new count h other differ ∙ counted other
            ∙ ap (λ k. some_count k (count_of other texts)) among
            ∙ ap (λ k. some_count (count_by (bytes_eq other) (all ++ more)) (min k (2 ^ 64 - 1))) (sym sum)
      ]

-- a text that was counted before
pub counts_again : {Z S : Type 0} (text : List ℕ) (old new : HashMap (Vec ℕ Z) ℕ S) (n was count : ℕ) (named : Bool)
    → 1 ≤ cond named 1 0 + n → found_for old text ≡ Some was
    → count ≡ min (was + n) (2 ^ 64 - 1)
    → UpdatesBy same_items (λ key. pointwise nat_eq text key.items) old new (Some count)
    → CountsTexts (named_if named text) (replicate n text) old new
counts_again text old new n was count named some found sum h =
    counts_so_often text old new n count named some h (λ names texts counted.
    let is = some_is (count_by (bytes_eq text) (names ++ texts)) (count_of text texts) was (sym (counted text) ∙ found)
    in omega (arith, is, sum))

-- one that was not
pub counts_first : {Z S : Type 0} (text : List ℕ) (key : Vec ℕ Z) (old new : HashMap (Vec ℕ Z) ℕ S) (n : ℕ)
    (named : Bool) → 1 ≤ cond named 1 0 + n → n < 2 ^ 64 → key.items ≡ text
    → found_for old text ≡ None → UpdatesBy same_items (same_items key) old new (Some n)
    → CountsTexts (named_if named text) (replicate n text) old new
counts_first {Z} {S} text key old new n named some fits same none h =
    subst (λ (t : List ℕ). CountsTexts (named_if named t) (replicate n t) old new) same
    (counts_so_often key.items old new n n named some h (λ names texts counted.
    let is = none_is (count_by (bytes_eq key.items) (names ++ texts)) (count_of key.items texts)
    (sym (counted key.items) ∙ ap (found_for old) same ∙ none) in
    omega (arith, is, count_both key.items names texts, fits)))

-- ---- the rows of a map

abbrev weight : List ℕ → Row → ℕ
weight text row = cond (bytes_eq text row.text) row.count 0

abbrev one_of : List ℕ → Row → ℕ
one_of text row = cond (bytes_eq text row.text) 1 0

module _ {Z : Type 0} where
  -- no other entry has the text of this one
  no_more : (e : Vec ℕ Z) (es : List (Vec ℕ Z × ℕ)) → AllByRecursion (λ y. same_items e y ≡ false) (keys_of es)
      → (counted_by (map entry_row es) e.items ≡ 0) × (rows_of (map entry_row es) e.items ≡ 0)
  no_more e [] h = (refl, refl)
  no_more e (x ∷ es) h =
      let more = no_more e es h.1 in
      let count = sum_by-cons (weight e.items) (entry_row x) (map entry_row es)
      ∙ ap (λ b. cond b x.1 0 + counted_by (map entry_row es) e.items) h.0 in
      let rows = sum_by-cons (one_of e.items) (entry_row x) (map entry_row es)
      ∙ ap (λ b. cond b 1 0 + rows_of (map entry_row es) e.items) h.0 in
      (omega (arith, count, more.0), omega (arith, rows, more.1))

  abbrev Found : List (Vec ℕ Z × ℕ) → List ℕ → Type 0
  Found es text = (counted_by (map entry_row es) text ≡ unwrap_or
      (lookup (λ key. pointwise nat_eq text key.items) es) 0)
      × (rows_of (map entry_row es) text ≡ cond (is_some (lookup (λ key. pointwise nat_eq text key.items) es)) 1 0)

  found_in : (es : List (Vec ℕ Z × ℕ)) → IsDistinct same_items (keys_of es) → (text : List ℕ) → Found es text
  unfolding IsDistinct
  found_in [] h text = (refl, refl)
  found_in (x ∷ es) h text = elim (cases_Bool (bytes_eq text x.0.items)) [
    | inl same ↦
        let none = no_more x.0 es h.0 in
        let is : x.0.items ≡ text = sym ((bytes_decides text x.0.items).0 same) in
        let count = sum_by-cons (weight text) (entry_row x) (map entry_row es)
        ∙ ap (λ b. cond b x.1 0 + counted_by (map entry_row es) text) same in
        let rows = sum_by-cons (one_of text) (entry_row x) (map entry_row es)
        ∙ ap (λ b. cond b 1 0 + rows_of (map entry_row es) text) same in
        let found = cond-true (bytes_eq text x.0.items) (Some x.1)
        (lookup (λ key. pointwise nat_eq text key.items) es) same in
        let zero_count = subst (λ (t : List ℕ). counted_by (map entry_row es) t ≡ 0) is none.0 in
        let zero_rows = subst (λ (t : List ℕ). rows_of (map entry_row es) t ≡ 0) is none.1 in (
          omega (arith, count, zero_count) ∙ ap (λ o. unwrap_or o 0) (sym found),
          omega (arith, rows, zero_rows) ∙ ap (λ o. cond (is_some o) 1 0) (sym found),
        )
    | inr differ ↦
        let more = found_in es h.1 text in
        let count = sum_by-cons (weight text) (entry_row x) (map entry_row es)
        ∙ ap (λ b. cond b x.1 0 + counted_by (map entry_row es) text) differ in
        let rows = sum_by-cons (one_of text) (entry_row x) (map entry_row es)
        ∙ ap (λ b. cond b 1 0 + rows_of (map entry_row es) text) differ in
        let found = cond-false (bytes_eq text x.0.items) (Some x.1)
        (lookup (λ key. pointwise nat_eq text key.items) es) differ in (
          omega (arith, count, more.0) ∙ ap (λ o. unwrap_or o 0) (sym found),
          omega (arith, rows, more.1) ∙ ap (λ o. cond (is_some o) 1 0) (sym found),
        )
  ]

unwrapped : (number count : ℕ) → (number ≡ 0 → count ≡ 0) → unwrap_or (some_count number count) 0 ≡ count
unwrapped zero count none = sym (none refl)
unwrapped (suc number) count none = refl

one_if : (number count : ℕ) → cond (is_some (some_count number count)) 1 0 ≡ min number 1
one_if zero count = refl
one_if (suc number) count = omega arith

-- ---- in order

sorted_map : {X Y : Type 0} (f : X → Y) (lt : Y → Y → Bool) (xs : List X) → IsSortedBy (λ a b. lt (f a) (f b)) xs
    → IsSortedBy lt (map f xs)
sorted_map f lt [] h k d low less = absurd (omega (arith, less))
sorted_map f lt (x ∷ xs) h k d low less =
    let within : k + 1 < length (x ∷ xs) = omega (arith, less, length-map (x ∷ xs) f) in
    let second = get_or-map f (x ∷ xs) (k + 1) x d within in
    let first = get_or-map f (x ∷ xs) k x d (omega (arith, within)) in
    ap (λ y. lt y (slice_index_or (map f (x ∷ xs)) k d)) second
    ∙ ap (λ y. lt (f (slice_index_or (x ∷ xs) (k + 1) x)) y) first ∙ h k x low within

module _ {Z S : Type 0} (named texts : List (List ℕ)) (counts : HashMap (Vec ℕ Z) ℕ S)
    (counted : Counted named texts counts)
    (distinct : IsDistinct same_items (keys_of counts.entries)) (made sorted : List (Reverse ℕ × Vec ℕ Z))
    (is : map row_of made ≡ map entry_row counts.entries)
    (moved : IsPermutation made sorted) where
  same_sum : (f : Row → ℕ) → sum_by f (map row_of sorted) ≡ sum_by f (map entry_row counts.entries)
  same_sum f = sum_by-IsPermutation f _ _ (IsPermutation-map row_of made sorted moved) ∙ ap (λ rows. sum_by f rows) is

  pub tally_of : IsSortedBy (λ a b. is_lt (row_cmp (row_of a) (row_of b))) sorted
      → IsTally named texts (map row_of sorted)
  tally_of in_order = record {
    counts = λ text.
        same_sum _ ∙ (found_in counts.entries distinct text).0 ∙ ap (λ o. unwrap_or o 0) (counted text)
        ∙ unwrapped (count_by (bytes_eq text) (named ++ texts)) (count_of text texts)
        (λ none. omega (arith, none, count_both text named texts));
    once = λ text. same_sum _ ∙ (found_in counts.entries distinct text).1 ∙ ap (λ o. cond (is_some o) 1 0)
        (counted text) ∙ one_if (count_by (bytes_eq text) (named ++ texts)) (count_of text texts);
    ordered = sorted_map row_of (λ a b. is_lt (row_cmp a b)) sorted in_order;
  }
