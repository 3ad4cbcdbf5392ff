-- The texts that numbers stand for, each as often as it was counted.
use Rattle.cidr_join.proofs.Words.{◌≡◌, ℕ, zero, suc, ◌+◌, ◌-◌, ◌*◌, ◌^◌, ◌<◌, ◌≤◌, Bool, true, false, cond, List, [], ◌∷◌, ◌++◌, length, take, drop, replicate, set, get_or, min, sym, refl, ap, subst, ◌∙◌, arith, slice_get, append_assoc, append-nil, length-take, Vec, Result, Ok, Err, OnOk, IfOk, HashMap, count_by, flat_map, bytes_eq, take_more, take_all, drop_all, flat_map_more, length-set, length-replicate, sum_by-replicate, sum_by-append, sum_by_push, none-some, same_value, mark_of, Reverse, count_of, IsTally, Counted, CountsTexts, repeated, row_of, some_count, IsCounted, CountsAll, Counts, Found, Tally}
use Rattle.std.proofs.Common.{Some}
use Rattle.std.specs.Prelude.{map}
use Rattle.cidr_join.proofs.Tallying.{count_both}

-- ---- texts

some_same : (a b count : ℕ) → (a ≡ 0 → b ≡ 0) → (b ≡ 0 → a ≡ 0) → some_count a count ≡ some_count b count
some_same zero zero count f g = refl
some_same zero (suc b) count f g = absurd (let none = f refl in omega (arith, none))
some_same (suc a) zero count f g = absurd (let none = g refl in omega (arith, none))
some_same (suc a) (suc b) count f g = refl

module _ {Z S : Type 0} where
  pub texts_none : (counts : HashMap (Vec ℕ Z) ℕ S) → CountsTexts [] [] counts counts
  texts_none counts names texts counted =
      subst (λ (l : List (List ℕ)). Counted l (texts ++ []) counts) (sym (append-nil names))
      (subst (λ (t : List (List ℕ)). Counted names t counts) (sym (append-nil texts)) counted)

  pub texts_both : (old mid new : HashMap (Vec ℕ Z) ℕ S) (named more first second : List (List ℕ))
      → CountsTexts named first old mid → CountsTexts more second mid new
      → CountsTexts (named ++ more) (first ++ second) old new
  texts_both old mid new named more first second p q names texts counted =
      subst (λ (l : List (List ℕ)). Counted l (texts ++ (first ++ second)) new) (append_assoc names named more)
      (subst (λ (t : List (List ℕ)). Counted ((names ++ named) ++ more) t new) (append_assoc texts first second)
      (q (names ++ named) (texts ++ first) (p names texts counted)))

  -- texts that are as often among other texts
  pub counted_as : (counts : HashMap (Vec ℕ Z) ℕ S) (named texts others : List (List ℕ))
      → ((text : List ℕ) → count_of text texts ≡ count_of text others) → Counted named texts counts
      → Counted named others counts
  counted_as counts named texts others same counted text =
      let was = count_both text named texts in
      let is = count_both text named others in
      counted text ∙ ap (some_count (count_by (bytes_eq text) (named ++ texts))) (same text)
      ∙ some_same (count_by (bytes_eq text) (named ++ texts)) (count_by (bytes_eq text) (named ++ others))
      (count_of text others) (λ none. omega (arith, none, was, is, same text))
      (λ none. omega (arith, none, was, is, same text))

-- ---- what the numbers stand for, one after another

-- the result for the items before an index, and for the item at it
pub flat_more : {X Y : Type 0} (f : X → List Y) (xs : List X) (i : ℕ) (x : X) → i < length xs → x ≡ get_or xs i x
    → flat_map f (take (i + 1) xs) ≡ flat_map f (take i xs) ++ f x
flat_more f xs i x within is = ap (flat_map f) (take_more xs i x within ∙ ap (λ y. take i xs ++ y ∷ []) (sym is))
    ∙ sym (flat_map_more f [] (take i xs) x)

repeated_push : (founds : List Found) (numbers : List ℕ) (found : Found) (number : ℕ) → length founds ≡ length numbers
    → repeated (founds ++ found ∷ []) (numbers ++ number ∷ []) ≡ repeated founds numbers
    ++ replicate number (mark_of found)
repeated_push [] [] found number same = append-nil (replicate number (mark_of found))
repeated_push [] (n ∷ numbers) found number same = absurd (omega (arith, same))
repeated_push (f ∷ founds) [] found number same = absurd (omega (arith, same))
repeated_push (f ∷ founds) (n ∷ numbers) found number same =
    ap (λ (t : List (List ℕ)). replicate n (mark_of f) ++ t)
    (repeated_push founds numbers found number (omega (arith, same)))
    ∙ sym (append_assoc (replicate n (mark_of f)) (repeated founds numbers) (replicate number (mark_of found)))

-- the texts for the numbers before an index, and for the number at it
pub repeated_more : (founds : List Found) (numbers : List ℕ) (i : ℕ) (found : Found) → i < length founds
    → i < length numbers → found ≡ get_or founds i found
    → repeated (take (i + 1) founds) (take (i + 1) numbers) ≡ repeated (take i founds) (take i numbers)
    ++ replicate (get_or numbers i 0) (mark_of found)
repeated_more founds numbers i found within among is =
    let first : take (i + 1) founds ≡ take i founds ++ found ∷ [] = take_more founds i found within
    ∙ ap (λ f. take i founds ++ f ∷ []) (sym is) in
    let second : take (i + 1) numbers ≡ take i numbers ++ get_or numbers i 0 ∷ [] = take_more numbers i 0 among in
    ap (λ (f : List Found). repeated f (take (i + 1) numbers)) first
    ∙ ap (λ (n : List ℕ). repeated (take i founds ++ found ∷ []) n) second
    ∙ repeated_push (take i founds) (take i numbers) found (get_or numbers i 0)
    (omega (arith, length-take i founds, length-take i numbers, within, among))

nothing_repeated : (founds : List Found) (count : ℕ) → repeated founds (replicate count 0) ≡ []
nothing_repeated [] count = refl
nothing_repeated (found ∷ founds) zero = refl
nothing_repeated (found ∷ founds) (suc count) = nothing_repeated founds count

-- ---- one number

times : (n : ℕ) (b : Bool) → n * cond b 1 0 ≡ cond b n 0
times n true = omega arith
times n false = omega arith

module _ (text : List ℕ) where
  abbrev part : Found → ℕ → ℕ
  part found number = cond (bytes_eq text (mark_of found)) number 0

  count_first : (found : Found) (founds : List Found) (number : ℕ) (numbers : List ℕ)
      → count_by (bytes_eq text) (repeated (found ∷ founds) (number ∷ numbers)) ≡ part found number + count_by
      (bytes_eq text) (repeated founds numbers)
  count_first found founds number numbers =
      sum_by-append _ (replicate number (mark_of found)) (repeated founds numbers)
      ∙ ap (λ k. k + count_by (bytes_eq text) (repeated founds numbers))
      (sum_by-replicate (λ mark. cond (bytes_eq text mark) 1 0) number (mark_of found)
      ∙ times number (bytes_eq text (mark_of found)))

  -- a number gets another count
  abbrev Recounted : List Found → List ℕ → ℕ → ℕ → Found → Type 0
  Recounted founds numbers i count found =
      (count_by (bytes_eq text) (repeated founds (set numbers i count)) + part found (get_or numbers i 0) ≡ count_by
      (bytes_eq text) (repeated founds numbers) + part found count)
      × (part found (get_or numbers i 0) ≤ count_by (bytes_eq text) (repeated founds numbers))

  count_set : (founds : List Found) (numbers : List ℕ) (i count : ℕ) (found : Found) → slice_get founds i ≡ Some found
      → i < length numbers → Recounted founds numbers i count found
  count_set [] numbers i count found at within = absurd (none-some found at)
  count_set (f ∷ founds) [] i count found at within = absurd (omega (arith, within))
  count_set (f ∷ founds) (n ∷ numbers) zero count found at within =
      let was = count_first found founds n numbers in
      let is = count_first found founds count numbers in
      subst (λ (g : Found). Recounted (g ∷ founds) (n ∷ numbers) 0 count found) (sym (same_value f found at))
      (omega (arith, was, is), omega (arith, was))
  count_set (f ∷ founds) (n ∷ numbers) (suc i) count found at within =
      let was = count_first f founds n numbers in
      let is = count_first f founds n (set numbers i count) in
      let rest = count_set founds numbers i count found at (omega (arith, within)) in
      (omega (arith, was, is, rest.0), omega (arith, was, rest.1))

sums : (b : Bool) (kept was is all count : ℕ) → is + cond b count 0 ≡ was + cond b (min (count + 1) (2 ^ 64 - 1)) 0
    → cond b count 0 ≤ was → min (kept + was) (2 ^ 64 - 1) ≡ min all (2 ^ 64 - 1)
    → min (kept + is) (2 ^ 64 - 1) ≡ min (all + cond b 1 0) (2 ^ 64 - 1)
sums true kept was is all count moved part same = omega (arith, moved, part, same)
sums false kept was is all count moved part same = omega (arith, moved, same)

-- a slice of a vector that was written, as the vector
pub stands_whole : (numbers before : List ℕ) (size : ℕ) → length numbers ≡ length before → size ≡ length before
    → take size (numbers ++ drop (length numbers) before) ≡ numbers
stands_whole numbers before size same is =
    ap (λ (l : List ℕ). take size (numbers ++ l)) (drop_all (length numbers) before (omega (arith, same)))
    ∙ ap (take size) (append-nil numbers) ∙ take_all size numbers (omega (arith, same, is))

-- more texts among others
moved_behind : (text : List ℕ) (kept marks rest texts : List (List ℕ)) → count_of text (kept ++ rest) ≡ count_of text
    texts → count_of text ((kept ++ marks) ++ rest) ≡ count_of text (texts ++ marks)
moved_behind text kept marks rest texts same =
    let f = λ (mark : List ℕ). cond (bytes_eq text mark) 1 0 in
    let whole : count_by (bytes_eq text) ((kept ++ marks) ++ rest) ≡ count_by (bytes_eq text) (kept ++ marks) + count_by
    (bytes_eq text) rest = sum_by-append f (kept ++ marks) rest in
    let first : count_by (bytes_eq text) (kept ++ marks) ≡ count_by (bytes_eq text) kept + count_by (bytes_eq text)
    marks = sum_by-append f kept marks in
    let both : count_by (bytes_eq text) (kept ++ rest) ≡ count_by (bytes_eq text) kept + count_by (bytes_eq text) rest =
    sum_by-append f kept rest in
    let last : count_by (bytes_eq text) (texts ++ marks) ≡ count_by (bytes_eq text) texts + count_by (bytes_eq text)
    marks = sum_by-append f texts marks in
    omega (arith, whole, first, both, last, same)

get_within : {X : Type 0} (xs : List X) (i : ℕ) (x : X) → slice_get xs i ≡ Some x → i < length xs
get_within [] i x at = absurd (none-some x at)
get_within (y ∷ xs) zero x at = omega arith
get_within (y ∷ xs) (suc i) x at = let h = get_within xs i x at in omega (arith, h)

module _ (founds : List Found) where
  pub none_counted : (counts : Counts) (count : ℕ) → Counted [] [] counts.tally.counts
      → counts.numbers.items ≡ replicate count 0 → count ≡ length founds → IsCounted founds [] counts
  none_counted counts count none zeros same = record {
    kept = [];
    is_kept = none;
    size = ap length zeros ∙ length-replicate count 0 ∙ same;
    all = λ text. ap (λ (n : List ℕ). count_of text (repeated founds n)) zeros
        ∙ ap (count_of text) (nothing_repeated founds count);
  }

  -- a number was counted once more, or there is no such number
  pub number_counted : (found : Found) (number : ℕ) (old new : Counts) → slice_get founds number ≡ Some found
      → new.tally ≡ old.tally
      → (number < length old.numbers.items
      → new.numbers.items ≡ set old.numbers.items number (min (get_or old.numbers.items number 0 + 1) (2 ^ 64 - 1)))
      → CountsAll founds (mark_of found ∷ []) old new
  number_counted found number old new at same set_one texts counted =
      let within : number < length old.numbers.items = omega (arith, get_within founds number found at, counted.size) in
      let is = set_one within in
      let count = min (get_or old.numbers.items number 0 + 1) (2 ^ 64 - 1) in
      record {
        kept = counted.kept;
        is_kept = subst (λ (t : Tally). Counted [] counted.kept t.counts) (sym same) counted.is_kept;
        size = ap length is ∙ length-set old.numbers.items number count ∙ counted.size;
        all = λ text.
            let f = λ (mark : List ℕ). cond (bytes_eq text mark) 1 0 in
            let moved = count_set text founds old.numbers.items number count found at within in
            let was = sum_by-append f counted.kept (repeated founds old.numbers.items) in
            ap (λ (n : List ℕ). count_of text (counted.kept ++ repeated founds n)) is
            ∙ ap (λ n. min n (2 ^ 64 - 1))
            (sum_by-append f counted.kept (repeated founds (set old.numbers.items number count)))
            ∙ sums (bytes_eq text (mark_of found)) (count_by (bytes_eq text) counted.kept)
            (count_by (bytes_eq text) (repeated founds old.numbers.items)) (count_by (bytes_eq text)
            (repeated founds (set old.numbers.items number count))) (count_by (bytes_eq text) texts)
            (get_or old.numbers.items number 0) moved.0 moved.1 (ap (λ n. min n (2 ^ 64 - 1)) (sym was)
            ∙ counted.all text)
            ∙ ap (λ n. min n (2 ^ 64 - 1)) (sym (sum_by_push f texts (mark_of found)));
      }

  -- texts were counted by their bytes
  pub texts_counted : (marks : List (List ℕ)) (old new : Counts) → new.numbers.items ≡ old.numbers.items
      → CountsTexts [] marks old.tally.counts new.tally.counts → CountsAll founds marks old new
  texts_counted marks old new same more texts counted = record {
    kept = counted.kept ++ marks;
    is_kept = more [] counted.kept counted.is_kept;
    size = ap length same ∙ counted.size;
    all = λ text. ap (λ (n : List ℕ). count_of text ((counted.kept ++ marks) ++ repeated founds n)) same
        ∙ moved_behind text counted.kept marks (repeated founds old.numbers.items) texts (counted.all text);
  }

-- a text was counted by its bytes, whatever the numbers stand for
pub text_counted : {T E : Type 0} (result : Result T E) (old new : Counts) (mark : List ℕ) → new.numbers.items
    ≡ old.numbers.items → OnOk result (CountsTexts [] (replicate 1 mark) old.tally.counts new.tally.counts)
    → OnOk result ((founds : List Found) → CountsAll founds (mark ∷ []) old new)
text_counted (Ok done) old new mark same h = λ founds. texts_counted founds (mark ∷ []) old new same h
text_counted (Err fault) old new mark same h = tt

-- the rows, once what the numbers stand for was counted by its bytes too
pub rows_counted : {Z E : Type 0} (founds : List Found) (named : List (List ℕ)) (counts : Counts) (tally : Tally)
    (rows : Result (Vec (Reverse ℕ × Vec ℕ Z) Z) E)
    → (length counts.numbers.items ≡ length founds
    → CountsTexts named (repeated founds counts.numbers.items) counts.tally.counts tally.counts)
    → IfOk rows (λ all. (names texts : List (List ℕ)) → Counted names texts tally.counts
    → IsTally names texts (map row_of all.items))
    → IfOk rows (λ all. (texts : List (List ℕ)) → IsCounted founds texts counts
    → IsTally named texts (map row_of all.items))
rows_counted founds named counts tally (Ok all) counted rows = λ texts h.
    rows named texts (counted_as tally.counts named (h.kept ++ repeated founds counts.numbers.items) texts h.all
    (counted h.size [] h.kept h.is_kept))
rows_counted founds named counts tally (Err fault) counted rows = tt
