-- Numbers that are searched first by their high halves.
use Rattle.ipnetwork_index.proofs.Words.{◌≡◌, ℕ, ◌+◌, ◌-◌, ◌<◌, ◌≤◌, Bool, true, false, List, length, map, get_or, arith, sym, subst, ⊎_elim, true≢false, cases_lt, get_or-map, length-map, IsLastOf, Ascends, AreStarts, IsWithin, IsPlaceOf, AllAreLast, IsPadded, IsSearched, HasComeTo}
use Rattle.ipnetwork_index.proofs.Searching.{come, read_number}

module _ (high : ℕ → ℕ) (up : (x y : ℕ) → x ≤ y → high x ≤ high y) where
  less_by_high : (x y : ℕ) → high x < high y → x < y
  less_by_high x y l =
      ⊎_elim
      (λ (less : x < y). less)
      (λ (ge : y ≤ x). let h : high y ≤ high x = up y x ge in absurd (omega arith))
      (cases_lt x y)

  -- the high half at a place is that of the number there
  high_at : (padded : List ℕ) (k : ℕ) → k < length padded
      → get_or (map high padded) k 0 ≡ high (get_or padded k 0)
  high_at padded k l = get_or-map high padded k 0 0 l

  pub highs_ascend : (padded : List ℕ) → Ascends padded → Ascends (map high padded)
  highs_ascend padded a =
      let size : length (map high padded) ≡ length padded = length-map padded high in
      record {
        order = λ i j le l.
            let ri = high_at padded i (omega arith) in
            let rj = high_at padded j (omega arith) in
            let o : get_or padded i 0 ≤ get_or padded j 0 = a.order i j le (omega arith) in
            let h = up (get_or padded i 0) (get_or padded j 0) o in
            omega arith;
      }

  pub high_within : (padded : List ℕ) (x : ℕ) → IsWithin padded x
      → IsWithin (map high padded) (high x)
  high_within padded x i =
      let some = i.some in
      let size : length (map high padded) ≡ length padded = length-map padded high in
      let r = high_at padded (length padded - 4) (omega arith) in
      let h = up x (get_or padded (length padded - 4) 0) i.most in
      record {
        some = omega arith;
        most = subst (λ (n : ℕ). high x ≤ get_or (map high padded) (n - 4) 0) (sym size)
            (omega arith);
      }

  -- the search among the high halves leads to a place where the search among the numbers may begin
  pub come_by_high : (padded : List ℕ) (x at : ℕ) → Ascends padded → IsWithin padded x
      → IsPlaceOf (map high padded) (high x) at → HasComeTo padded x at
  come_by_high padded x at up within p =
      let size : length (map high padded) ≡ length padded = length-map padded high in
      let room = p.room in
      come padded x at up within (λ k l.
      let r = high_at padded k (omega arith) in
      let less : get_or (map high padded) k 0 < high x = p.after k l in
      less_by_high (get_or padded k 0) x (omega arith))

  -- if each number is the last with its high half, the search among the high halves leads to the number's place
  pub place_by_high : (padded : List ℕ) (x at : ℕ) → Ascends padded → IsWithin padded x → AllAreLast high padded
      → IsPlaceOf (map high padded) (high x) at → IsPlaceOf padded x at
  place_by_high padded x at up within last p =
      let h = come_by_high padded x at up within p in
      let size : length (map high padded) ≡ length padded = length-map padded high in
      let room = p.room in
      let r = high_at padded at (omega arith) in
      let le : high x ≤ get_or (map high padded) at 0 = p.within in
      record {
        after = h.after;
        within = last at (omega arith) x (omega arith);
        room = h.room;
      }

  -- ---- the fields of a partition

  pub halved : (w bits high_bits : ℕ) (padded starts highs : List ℕ)
      (base shift high_base : ℕ) (tells : Bool)
      → IsPadded w padded → highs ≡ map high padded → AreStarts highs starts high_base shift
      → shift < high_bits → (tells ≡ true → AllAreLast high padded)
      → IsSearched w high bits high_bits padded starts base shift true highs high_base tells
  halved w bits high_bits padded starts highs base shift high_base tells i e s narrow last =
      let some = i.some in
      let size : length (map high padded) ≡ length padded = length-map padded high in
      record {
        is_padded = i;
        searchable = λ f. absurd (true≢false f);
        narrow = λ f. absurd (true≢false f);
        is_halved = λ _. record {
          highs_are = e;
          searchable = record {
            some = subst (λ (xs : List ℕ). 4 ≤ length xs) (sym e) (omega arith);
            ascending = subst (λ (xs : List ℕ). Ascends xs) (sym e)
                (highs_ascend padded i.ascending);
            starts_are = s;
          };
          narrow = narrow;
          all_last = last;
        };
      }

pub whole : (w : ℕ) (high : ℕ → ℕ) (bits high_bits : ℕ) (padded starts highs : List ℕ)
    (base shift high_base : ℕ) (tells : Bool)
    → IsPadded w padded → AreStarts padded starts base shift → shift < bits
    → IsSearched w high bits high_bits padded starts base shift false highs high_base tells
whole w high bits high_bits padded starts highs base shift high_base tells i s narrow = record {
  is_padded = i;
  searchable = λ _. record { some = i.some; ascending = i.ascending; starts_are = s };
  narrow = λ _. narrow;
  is_halved = λ t. absurd (true≢false (sym t));
}

-- ---- one more number is the last with its high half

pub all_last_more : {X : Type 0} (high : ℕ → ℕ) (f : X → ℕ) (xs : List X) (at : ℕ) (x : X)
    → ((k : ℕ) → k < at → IsLastOf high (get_or (map f xs) k 0))
    → at < length xs → x ≡ get_or xs at x → IsLastOf high (f x)
    → (k : ℕ) → k < at + 1 → IsLastOf high (get_or (map f xs) k 0)
all_last_more high f xs at x h own e last k l =
    ⊎_elim
    (λ (before : k < at). h k before)
    (λ (here : at ≤ k).
    let q : at ≡ k = omega arith in
    subst (λ (j : ℕ). IsLastOf high (get_or (map f xs) j 0)) q
    (subst (λ (n : ℕ). IsLastOf high n) (sym (read_number f xs at x own e)) last))
    (cases_lt k at)
