-- The octets of an IPv4 text in the lanes of a vector.
use Rattle.ipnetwork_addr.proofs.Words.{◌≡◌, ℕ, ◌+◌, ◌-◌, ◌*◌, ◌/◌, ◌%◌, ◌<◌, ◌≤◌, ◌==◌, inl, inr, cond, nat_lt, List, [], ◌∷◌, ◌++◌, length, map, take, drop, get_or, refl, sym, ap, ◌∙◌, subst, arith, lit<, lit≤, take-append-drop, ◌^◌, Bool, true, false, T, ltb, ◌||◌, replicate, w8, w32, Option, None, Some, IfSome, zero, suc, ap₂, leb, cases_eq, lt-ltb, lt-leb, agree_below_at, cases_lt, ltb-true, drop_more, drop-drop, drop-take, take-take, take_rest, get_or-map, get_or_past, digit_value_digit, digit_value, dot, IsOctet, NamesV4, BeginsWithOctet, sixteen, joined_positions, first_count, second_count, third_count, fourth_count, second_at, third_at, fourth_at, end_of, lane_at, digit_in, row_positions, row_least, AreAtLeast, AreOctetsOf, number_from_digits, swz_l, SwzOk, SwzOk-from_Each1, zip2_splat, tops_compared, length-zip2, mask_l-mod, bit_mask_l, get_or-zip2, Each1-get_or, below_from_Fits, zero-div, get_or-take}
use Rattle.std.proofs.Common.{◌&&◌}
use Rattle.ipnetwork_addr.proofs.OctetFronts.{Value, one_digit, two_digits, three_digits, four_octets}
use lib.Lanes.{Each1, zip2, pick_l, mask_l, top, pair_sums, all_below}
use mir.Syntax.{Width}
use mir.Val.{zeroes, bits, hbits, Fits}

-- ---- the bytes of an octet

one_byte : (xs : List ℕ) (p : ℕ) → p < length xs → take 1 (drop p xs) ≡ get_or xs p 0 ∷ []
one_byte xs p long = ap (take 1) (drop_more xs p 0 long)

two_bytes : (xs : List ℕ) (p q : ℕ) → p + 1 ≡ q → q < length xs → take 2 (drop p xs) ≡ get_or xs p 0
    ∷ get_or xs q 0 ∷ []
two_bytes xs p q next long =
    ap (take 2) (drop_more xs p 0 (omega arith)
    ∙ ap (λ t. get_or xs p 0 ∷ t) (ap (λ k. drop k xs) next ∙ drop_more xs q 0 long))

three_bytes : (xs : List ℕ) (p q r : ℕ) → p + 1 ≡ q → q + 1 ≡ r → r < length xs → take 3 (drop p xs) ≡ get_or xs p 0
    ∷ get_or xs q 0 ∷ get_or xs r 0 ∷ []
three_bytes xs p q r next last long =
    ap (take 3) (drop_more xs p 0 (omega arith)
    ∙ ap (λ t. get_or xs p 0 ∷ t) (ap (λ k. drop k xs) next ∙ drop_more xs q 0 (omega arith)
    ∙ ap (λ t. get_or xs q 0 ∷ t) (ap (λ k. drop k xs) last ∙ drop_more xs r 0 long)))

abbrev pub AreBytes : List ℕ → Type 0
AreBytes xs = (k : ℕ) → k < 16 → get_or xs k 0 < 256

-- a byte that is 0 to 9 above `0` is a digit
digit_of : (x v : ℕ) → x < 256 → v ≡ (x + 208) % 256 → v ≤ 9 → Value x v
digit_of x v fits is small =
    let value : digit_value x + 48 ≡ x = digit_value_digit x (omega arith, omega arith) in
    let same : digit_value x ≡ v = omega arith in
    sym (ap (λ b. cond b (digit_value x) 256) (lt-ltb (digit_value x) 10 (omega arith)) ∙ same)

digit_in_at : (xs : List ℕ) (p : ℕ) → length xs ≡ 16 → p < 16 → digit_in xs p ≡ (get_or xs p 0 + 208) % 256
digit_in_at xs p size low =
    ap (λ b. cond b 0 (get_or (map (λ x. (x + 208) % 256) xs) p 0)) (lt-leb 128 p (omega arith))
    ∙ get_or-map (λ x. (x + 208) % 256) xs p 0 0 (omega arith)

digit_at : (xs : List ℕ) (p v : ℕ) → AreBytes xs → length xs ≡ 16 → p < 16 → v ≡ digit_in xs p → v ≤ 9
    → Value (get_or xs p 0) v
digit_at xs p v bytes size low is small =
    digit_of (get_or xs p 0) v (bytes p low) (is ∙ digit_in_at xs p size low) small

-- the hundreds, tens and ones of an octet
abbrev hundreds : List ℕ → ℕ → ℕ → ℕ
hundreds xs at count = digit_in xs (cond (nat_lt count 3) 128 at)

abbrev tens : List ℕ → ℕ → ℕ → ℕ
tens xs at count = digit_in xs (cond (nat_lt count 2) 128 (at + count - 2))

abbrev ones : List ℕ → ℕ → ℕ → ℕ
ones xs at count = digit_in xs (at + count - 1)

-- the bounds of these lanes, and their number
record Lanes (xs : List ℕ) (at n count : ℕ) : Type 0 where
  within : at + count ≤ length xs
  first : cond (nat_lt count 3) 0 1 ≤ hundreds xs at count
  second : cond (count == 2) 1 0 ≤ tens xs at count
  high : hundreds xs at count ≤ 9
  middle : tens xs at count ≤ 9
  low : ones xs at count ≤ 9
  number : n ≡ hundreds xs at count * 100 + tens xs at count * 10 + ones xs at count
  bound : n ≤ 255

octet_of_one : (xs : List ℕ) (at n : ℕ) → AreBytes xs → length xs ≡ 16 → Lanes xs at n 1
    → IsOctet (take 1 (drop at xs)) n
octet_of_one xs at n bytes size h =
    let last : at + 1 - 1 ≡ at = omega arith in
    let value : Value (get_or xs at 0) n = digit_at xs at n bytes size (omega (arith, h.within))
    (omega (arith, h.number) ∙ ap (digit_in xs) last) (omega (arith, h.number, h.low)) in
    subst (λ (s : List ℕ). IsOctet s n) (sym (one_byte xs at (omega (arith, h.within))))
    (one_digit _ n value (omega (arith, h.number, h.low)))

octet_of_two : (xs : List ℕ) (at n : ℕ) → AreBytes xs → length xs ≡ 16 → Lanes xs at n 2
    → IsOctet (take 2 (drop at xs)) n
octet_of_two xs at n bytes size h =
    let v = tens xs at 2 in
    let w = ones xs at 2 in
    let p = at + 2 - 2 in
    let q = at + 2 - 1 in
    let begin : at ≡ p = omega arith in
    let a : Value (get_or xs p 0) v = digit_at xs p v bytes size (omega (arith, h.within)) refl h.middle in
    let b : Value (get_or xs q 0) w = digit_at xs q w bytes size (omega (arith, h.within)) refl h.low in
    subst (λ (s : List ℕ). IsOctet s n)
    (sym (ap (λ k. take 2 (drop k xs)) begin ∙ two_bytes xs p q (omega arith) (omega (arith, h.within))))
    (two_digits _ _ v w n a b (omega (arith, h.number)) (omega (arith, h.number, h.second))
    (omega (arith, h.number, h.middle, h.low)))

octet_of_three : (xs : List ℕ) (at n : ℕ) → AreBytes xs → length xs ≡ 16 → Lanes xs at n 3
    → IsOctet (take 3 (drop at xs)) n
octet_of_three xs at n bytes size h =
    let u = hundreds xs at 3 in
    let v = tens xs at 3 in
    let w = ones xs at 3 in
    let q = at + 3 - 2 in
    let r = at + 3 - 1 in
    let a : Value (get_or xs at 0) u = digit_at xs at u bytes size (omega (arith, h.within)) refl h.high in
    let b : Value (get_or xs q 0) v = digit_at xs q v bytes size (omega (arith, h.within)) refl h.middle in
    let c : Value (get_or xs r 0) w = digit_at xs r w bytes size (omega (arith, h.within)) refl h.low in
    subst (λ (s : List ℕ). IsOctet s n)
    (sym (three_bytes xs at q r (omega arith) (omega arith) (omega (arith, h.within))))
    (three_digits a b c (omega (arith, h.number)) (omega (arith, h.number, h.first)) h.bound)

octet_of_lanes : (xs : List ℕ) (at count n : ℕ) → AreBytes xs → length xs ≡ 16 → 1 ≤ count → count ≤ 3
    → Lanes xs at n count → IsOctet (take count (drop at xs)) n
octet_of_lanes xs at count n bytes size some few h = elim (cases_eq count 1) [
  | inl one ↦ subst (λ c. IsOctet (take c (drop at xs)) n) (sym one)
      (octet_of_one xs at n bytes size (subst (Lanes xs at n) one h))
  | inr more ↦ elim (cases_eq count 2) [
    | inl two ↦ subst (λ c. IsOctet (take c (drop at xs)) n) (sym two)
        (octet_of_two xs at n bytes size (subst (Lanes xs at n) two h))
    | inr many ↦
        let three : count ≡ 3 = omega arith in
        subst (λ c. IsOctet (take c (drop at xs)) n) (sym three)
        (octet_of_three xs at n bytes size (subst (Lanes xs at n) three h))
  ]
]

-- ---- the octets of a row

dot_at : (xs : List ℕ) (p : ℕ) → AreBytes xs → length xs ≡ 16 → p < 16 → 254 ≤ digit_in xs p → digit_in xs p ≤ 254
    → get_or xs p 0 ≡ dot
dot_at xs p bytes size low least most = omega (arith, digit_in_at xs p size low, bytes p low)

-- the greatest value of each lane
abbrev pub most_lanes : List ℕ
most_lanes = 9 ∷ 9 ∷ 9 ∷ 254 ∷ 9 ∷ 9 ∷ 9 ∷ 254 ∷ 9 ∷ 9 ∷ 9 ∷ 254 ∷ 9 ∷ 9 ∷ 9 ∷ 0 ∷ []

abbrev lanes : List ℕ → ℕ → List ℕ
lanes xs row = map (digit_in xs) (row_positions row)

-- the number that an octet's lanes represent
abbrev worth : List ℕ → ℕ → ℕ
worth ds i = get_or ds i 0 * 100 + get_or ds (i + 1) 0 * 10 + get_or ds (i + 2) 0

module _ (xs : List ℕ) (row : ℕ) (bytes : AreBytes xs) (size : length xs ≡ 16) (known : row < 81)
    (least : AreAtLeast (lanes xs row) (row_least row)) (most : AreAtLeast most_lanes (lanes xs row)) where
  octet : (at count n : ℕ) → at + count ≤ 16 → 1 ≤ count → count ≤ 3
      → cond (nat_lt count 3) 0 1 ≤ hundreds xs at count → cond (count == 2) 1 0 ≤ tens xs at count
      → hundreds xs at count ≤ 9 → tens xs at count ≤ 9 → ones xs at count ≤ 9
      → n ≡ hundreds xs at count * 100 + tens xs at count * 10 + ones xs at count → n ≤ 255
      → IsOctet (take count (drop at xs)) n
  octet at count n within some few first second high middle low number bound =
      octet_of_lanes xs at count n bytes size some few
      (record {
        within = omega (arith, size);
        first = first;
        second = second;
        high = high;
        middle = middle;
        low = low;
        number = number;
        bound = bound;
      })

  -- the bounds of a lane
  low : (k : ℕ) → T (ltb k 16) → get_or (row_least row) k 0 ≤ get_or (lanes xs row) k 0
  low k l = least k (lit< l)

  high : (k : ℕ) → T (ltb k 16) → get_or (lanes xs row) k 0 ≤ get_or most_lanes k 0
  high k l = most k (lit< l)

  octets : (n : ℕ → ℕ) → ((i : ℕ) → i < 4 → n i ≡ worth (lanes xs row) (4 * i)) → ((i : ℕ) → i < 4 → n i ≤ 255)
      → AreOctetsOf xs row (n 0 ∷ n 1 ∷ n 2 ∷ n 3 ∷ [])
  octets n is bound =
      record {
        first = octet 0 (first_count row) (n 0) (omega arith) (omega arith) (omega arith) (low 0 tt) (low 1 tt)
            (high 0 tt) (high 1 tt) (high 2 tt) (is 0 (lit≤ tt)) (bound 0 (lit≤ tt));
        first_dot = dot_at xs (first_count row) bytes size (omega arith) (low 3 tt) (high 3 tt);
        second = octet (second_at row) (second_count row) (n 1) (omega arith) (omega arith) (omega arith) (low 4 tt)
            (low 5 tt) (high 4 tt) (high 5 tt) (high 6 tt) (is 1 (lit≤ tt)) (bound 1 (lit≤ tt));
        second_dot = dot_at xs (second_at row + second_count row) bytes size (omega arith) (low 7 tt) (high 7 tt);
        third = octet (third_at row) (third_count row) (n 2) (omega arith) (omega arith) (omega arith) (low 8 tt)
            (low 9 tt) (high 8 tt) (high 9 tt) (high 10 tt) (is 2 (lit≤ tt)) (bound 2 (lit≤ tt));
        third_dot = dot_at xs (third_at row + third_count row) bytes size (omega arith) (low 11 tt) (high 11 tt);
        fourth = octet (fourth_at row) (fourth_count row) (n 3) (omega arith) (omega arith) (omega arith) (low 12 tt)
            (low 13 tt) (high 12 tt) (high 13 tt) (high 14 tt) (is 3 (lit≤ tt)) (bound 3 (lit≤ tt));
        four = refl;
      }

-- ---- the text with these bytes

-- a part of the text's bytes is a part of all the bytes
same_part : (xs : List ℕ) (n at count : ℕ) → at + count ≤ n → take count (drop at (take n xs)) ≡ take count (drop at xs)
same_part xs n at count within =
    let left : n ≡ at + (n - at) = omega arith in
    ap (λ k. take count (drop at (take k xs))) left ∙ ap (take count) (drop-take at (n - at) xs)
    ∙ take-take count (n - at) (drop at xs) (omega arith)

octet_and_dot : (text : List ℕ) (at count n next : ℕ) → at + count < length text → get_or text (at + count) 0 ≡ dot
    → at + count + 1 ≡ next → IsOctet (take count (drop at text)) n
    → BeginsWithOctet (drop at text) n (dot ∷ drop next text)
octet_and_dot text at count n next within here is h = record {
  bound = h.0;
  split =
      sym (take-append-drop count (drop at text))
      ∙ ap (λ t. take count (drop at text) ++ t) (drop-drop count at text ∙ drop_more text (at + count) 0 within
      ∙ ap (λ b. b ∷ drop (at + count + 1) text) here
      ∙ ap (λ k. dot ∷ drop k text) is)
      ∙ ap (λ t. t ++ dot ∷ drop next text) h.1;
  stops = inl (lit≤ tt);
}

-- ---- what the reader of a row does with vectors

-- each position is one of sixteen, or means that there is no byte
abbrev is_position : ℕ → Bool
is_position j = zeroes 16 w8 j || ltb j 16

abbrev all_positions : List ℕ → Bool
all_positions [] = true
all_positions (j ∷ js) = is_position j && all_positions js

halves : (a b : Bool) → (a && b) ≡ true → T a × (b ≡ true)
halves true b h = (tt, h)
halves false b h = absurd (cc)

each_position : (js : List ℕ) → all_positions js ≡ true → Each1 (λ j. T (zeroes 16 w8 j || ltb j 16)) js
each_position [] h = tt
each_position (j ∷ js) h = let k : T (is_position j) × (all_positions js ≡ true) =
    halves (is_position j) (all_positions js) h in (k.0, each_position js k.1)

pub positions_ok : (row : ℕ) (js : List ℕ) → row < 81 → js ≡ row_positions row → SwzOk w8 16 16 0 js
positions_ok row js below is =
    subst (SwzOk w8 16 16 0) (sym is) (SwzOk-from_Each1 w8 16 1 16 0 (row_positions row) refl (lit≤ tt)
    (each_position (row_positions row)
    (agree_below_at (λ r. all_positions (row_positions r)) (λ _. true) 81 row refl below)))

pub joined_ok : (count : ℕ) (js : List ℕ) → 8 ≤ count → count ≤ 15 → js ≡ joined_positions count → SwzOk w8 16 16 0 js
joined_ok count js long short is =
    let at : count - 8 + 8 ≡ count = omega arith in
    let positions : all_positions (joined_positions count) ≡ true
    = ap (λ n. all_positions (joined_positions n)) (sym at)
    ∙ agree_below_at (λ r. all_positions (joined_positions (r + 8))) (λ _. true) 8 (count - 8) refl (omega arith) in
    subst (SwzOk w8 16 16 0) (sym is) (SwzOk-from_Each1 w8 16 1 16 0 (joined_positions count) refl (lit≤ tt)
    (each_position (joined_positions count) positions))

-- the lanes at these positions
swz_is : (vs : List ℕ) (i : ℕ) (js : List ℕ) → i + length js ≤ 16 → swz_l w8 16 vs i js ≡ map (lane_at vs) js
swz_is vs i [] h = refl
swz_is vs i (j ∷ js) h =
    let same : 16 * (i / 16) + j ≡ j = omega arith in
    ap₂ (λ x xs. x ∷ xs) (ap (λ k. cond (leb 128 j) 0 (get_or vs k 0)) same) (swz_is vs (suc i) js (omega arith))

pub lanes_at : (xs : List ℕ) (row : ℕ) (js : List ℕ) → length xs ≡ 16 → js ≡ row_positions row
    → swz_l w8 16 (zip2 (λ a b. (a + (2 ^ 8 - b)) % 2 ^ 8) xs (replicate 16 48)) 0 js ≡ lanes xs row
lanes_at xs row js size is =
    ap (λ v. swz_l w8 16 v 0 js) (zip2_splat (λ a b. (a + (2 ^ 8 - b)) % 2 ^ 8) xs 16 48 size)
    ∙ ap (swz_l w8 16 (map (λ x. (x + 208) % 256) xs) 0) is
    ∙ swz_is (map (λ x. (x + 208) % 256) xs) 0 (row_positions row) (lit≤ tt)

-- the first eight bytes of a text, followed by those of the last eight that are not among the first
abbrev pub joined_lanes : List ℕ → List ℕ → List ℕ
joined_lanes text js = swz_l w8 16 (pick_l 0 (take 8 text ++ take 8 (drop (length text - 8) text)) sixteen) 0 js

joined_is : (text : List ℕ) → 8 ≤ length text → length text ≤ 15
    → take (length text) (joined_lanes text (joined_positions (length text))) ≡ text
joined_is [] long short = absurd (omega arith)
joined_is (a ∷ []) long short = absurd (omega arith)
joined_is (a ∷ b ∷ []) long short = absurd (omega arith)
joined_is (a ∷ b ∷ c ∷ []) long short = absurd (omega arith)
joined_is (a ∷ b ∷ c ∷ d ∷ []) long short = absurd (omega arith)
joined_is (a ∷ b ∷ c ∷ d ∷ e ∷ []) long short = absurd (omega arith)
joined_is (a ∷ b ∷ c ∷ d ∷ e ∷ f ∷ []) long short = absurd (omega arith)
joined_is (a ∷ b ∷ c ∷ d ∷ e ∷ f ∷ g ∷ []) long short = absurd (omega arith)
joined_is (a ∷ b ∷ c ∷ d ∷ e ∷ f ∷ g ∷ h ∷ []) long short = refl
joined_is (a ∷ b ∷ c ∷ d ∷ e ∷ f ∷ g ∷ h ∷ i ∷ []) long short = refl
joined_is (a ∷ b ∷ c ∷ d ∷ e ∷ f ∷ g ∷ h ∷ i ∷ j ∷ []) long short = refl
joined_is (a ∷ b ∷ c ∷ d ∷ e ∷ f ∷ g ∷ h ∷ i ∷ j ∷ k ∷ []) long short = refl
joined_is (a ∷ b ∷ c ∷ d ∷ e ∷ f ∷ g ∷ h ∷ i ∷ j ∷ k ∷ l ∷ []) long short = refl
joined_is (a ∷ b ∷ c ∷ d ∷ e ∷ f ∷ g ∷ h ∷ i ∷ j ∷ k ∷ l ∷ m ∷ []) long short = refl
joined_is (a ∷ b ∷ c ∷ d ∷ e ∷ f ∷ g ∷ h ∷ i ∷ j ∷ k ∷ l ∷ m ∷ n ∷ []) long short = refl
joined_is (a ∷ b ∷ c ∷ d ∷ e ∷ f ∷ g ∷ h ∷ i ∷ j ∷ k ∷ l ∷ m ∷ n ∷ o ∷ []) long short = refl
joined_is (a ∷ b ∷ c ∷ d ∷ e ∷ f ∷ g ∷ h ∷ i ∷ j ∷ k ∷ l ∷ m ∷ n ∷ o ∷ p ∷ more) long short = absurd (omega arith)

pub joined_text : (text js : List ℕ) → 8 ≤ length text → length text ≤ 15 → js ≡ joined_positions (length text)
    → take (length text) (joined_lanes text js) ≡ text
joined_text text js long short is = ap (λ k. take (length text) (joined_lanes text k)) is ∙ joined_is text long short

-- if no lane of the comparison is set, no lane is less than the other
pub none_less : (w : Width) (a b : List ℕ) (n : ℕ) → length a ≡ n → length b ≡ n → n ≤ 64
    → mask_l (map (top (hbits w)) (zip2 (λ x y. cond (ltb x y) (2 ^ bits w - 1) 0) a b)) % 2 ^ 64 ≡ 0
    → (k : ℕ) → k < n → get_or b k 0 ≤ get_or a k 0
none_less w a b n long same few none k below =
    let size : length (zip2 ltb a b) ≡ n = length-zip2 ltb a b (long ∙ sym same) ∙ long in
    let marks : mask_l (zip2 ltb a b) ≡ 0 = sym (ap (λ ms. mask_l ms % 2 ^ 64) (tops_compared w ltb a b)
    ∙ mask_l-mod (zip2 ltb a b) 64 (omega (arith, size))) ∙ none in
    let bit : mask_l (zip2 ltb a b) / 2 ^ k % 2 ≡ cond (ltb (get_or a k 0) (get_or b k 0)) 1 0
    = bit_mask_l (zip2 ltb a b) k
    ∙ ap (λ t. cond t 1 0) (get_or-zip2 ltb a b k 0 0 false (omega (arith, long)) (omega (arith, same))) in
    elim (cases_lt (get_or a k 0) (get_or b k 0)) [
      | inl less ↦
          let one : mask_l (zip2 ltb a b) / 2 ^ k % 2 ≡ 1 = bit
          ∙ ap (λ t. cond t 1 0) (lt-ltb (get_or a k 0) (get_or b k 0) less) in
          let zero : mask_l (zip2 ltb a b) / 2 ^ k % 2 ≡ 0 = ap (λ n. n / 2 ^ k % 2) marks
          ∙ ap (λ n. n % 2) (zero-div (2 ^ k)) in
          absurd (omega (arith, one, zero))
      | inr least ↦ least
    ]

both : (a b : Bool) → T a → T b → T (a && b)
both true b x y = y
both false b x y = absurd x

below : (n m : ℕ) → n < m → T (ltb n m)
below n m h = subst T (sym (lt-ltb n m h)) tt

abbrev pub weights : List ℕ
weights = 100 ∷ 10 ∷ 1 ∷ 0 ∷ 100 ∷ 10 ∷ 1 ∷ 0 ∷ 100 ∷ 10 ∷ 1 ∷ 0 ∷ 100 ∷ 10 ∷ 1 ∷ 0 ∷ []

-- the sums of neighbouring products are small
products_below : (d : ℕ → ℕ) → ((k : ℕ) → k < 16 → d k ≤ 254)
    → T (all_below 32768 (pair_sums (zip2 (λ x y. x * y) (d 0 ∷ d 1 ∷ d 2 ∷ d 3 ∷ d 4 ∷ d 5 ∷ d 6 ∷ d 7 ∷ d 8 ∷ d 9
    ∷ d 10 ∷ d 11 ∷ d 12 ∷ d 13 ∷ d 14 ∷ d 15 ∷ []) weights)))
products_below d few =
    both _ _ (tens_below 0 1 (lit≤ tt) (lit≤ tt)) (both _ _ (ones_below 2 3 (lit≤ tt))
    (both _ _ (tens_below 4 5 (lit≤ tt) (lit≤ tt)) (both _ _ (ones_below 6 7 (lit≤ tt))
    (both _ _ (tens_below 8 9 (lit≤ tt) (lit≤ tt)) (both _ _ (ones_below 10 11 (lit≤ tt))
    (both _ _ (tens_below 12 13 (lit≤ tt) (lit≤ tt)) (both _ _ (ones_below 14 15 (lit≤ tt)) tt)))))))
  where
    tens_below : (i j : ℕ) → i < 16 → j < 16 → T (ltb (d i * 100 + d j * 10) 32768)
    tens_below i j a b = below _ _ (omega (arith, few i a, few j b))

    ones_below : (i j : ℕ) → i < 16 → T (ltb (d i * 1 + d j * 0) 32768)
    ones_below i j a = below _ _ (omega (arith, few i a))

-- no lane exceeds 254
few_lanes : (ds : List ℕ) → AreAtLeast most_lanes ds → (k : ℕ) → k < 16 → get_or ds k 0 ≤ 254
few_lanes ds most k l = omega (arith, most k l, most_few k)
  where
    most_few : (i : ℕ) → get_or most_lanes i 0 ≤ 254
    most_few i = elim (cases_lt i 16) [
      | inl low ↦ omega (
        arith,
        ltb-true (get_or most_lanes i 0) 255
            (agree_below_at (λ j. ltb (get_or most_lanes j 0) 255) (λ _. true) 16 i refl low),
      )
      | inr high ↦ omega (arith, get_or_past most_lanes i 0 high)
    ]

pub weights_ok : (xs : List ℕ) (row : ℕ) (ds : List ℕ) → ds ≡ lanes xs row → AreAtLeast most_lanes ds
    → T (all_below 32768 (pair_sums (zip2 (λ x y. x * y) ds weights)))
weights_ok xs row ds is most =
    subst (λ (s : List ℕ). T (all_below 32768 (pair_sums (zip2 (λ x y. x * y) s weights)))) (sym is)
    (products_below (λ k. get_or (lanes xs row) k 0) (few_lanes (lanes xs row) (subst (AreAtLeast most_lanes) is most)))

-- the numbers that the lanes represent
abbrev numbers : List ℕ → List ℕ
numbers ds = pair_sums (pair_sums (zip2 (λ x y. x * y) ds weights))

abbrev ReadsOctets : List ℕ → ℕ → List ℕ → Type 0
ReadsOctets xs row ds =
    AreAtLeast ds (row_least row) → AreAtLeast most_lanes ds
    → mask_l (map (top 31) (zip2 (λ x y. cond (ltb x y) (2 ^ 32 - 1) 0) (255 ∷ 255 ∷ 255 ∷ 255 ∷ []) (numbers ds)))
    % 2 ^ 64 ≡ 0
    → AreOctetsOf xs row (map (λ x. x) (numbers ds))

of_lanes : (xs : List ℕ) (row : ℕ) → AreBytes xs → length xs ≡ 16 → row < 81 → ReadsOctets xs row (lanes xs row)
of_lanes xs row bytes size known least most none =
    let small : (k : ℕ) → k < 4 → get_or (numbers (lanes xs row)) k 0 ≤ get_or (255 ∷ 255 ∷ 255 ∷ 255 ∷ []) k 0
    = none_less w32 (255 ∷ 255 ∷ 255 ∷ 255 ∷ []) (numbers (lanes xs row)) 4 refl refl (lit≤ tt) none in
    octets xs row bytes size known least most (λ i. get_or (map (λ x. x) (numbers (lanes xs row))) i 0)
    (below_four (λ i. get_or (map (λ x. x) (numbers (lanes xs row))) i 0 ≡ worth (lanes xs row) (4 * i)) (sum_at 0)
    (sum_at 4) (sum_at 8) (sum_at 12))
    (below_four (λ i. get_or (map (λ x. x) (numbers (lanes xs row))) i 0 ≤ 255) (small 0 (lit≤ tt)) (small 1 (lit≤ tt))
    (small 2 (lit≤ tt)) (small 3 (lit≤ tt)))
  where
    -- an octet's number, from the sums of neighbouring products
    sum_at : (i : ℕ) → get_or (lanes xs row) i 0 * 100 + get_or (lanes xs row) (i + 1)
        0 * 10 + (get_or (lanes xs row) (i + 2) 0 * 1 + get_or (lanes xs row) (i + 3) 0 * 0) ≡ worth (lanes xs row) i
    sum_at i = omega arith

    below_four : (P : ℕ → Type 0) → P 0 → P 1 → P 2 → P 3 → (k : ℕ) → k < 4 → P k
    below_four P a b c d zero l = a
    below_four P a b c d (suc zero) l = b
    below_four P a b c d (suc (suc zero)) l = c
    below_four P a b c d (suc (suc (suc zero))) l = d
    below_four P a b c d (suc (suc (suc (suc k)))) l = absurd (omega arith)

pub octets_read : (xs : List ℕ) (row : ℕ) (ds : List ℕ) → Each1 (Fits w8) xs → length xs ≡ 16 → row < 81
    → ds ≡ lanes xs row → ReadsOctets xs row ds
octets_read xs row ds fits size known is =
    subst (ReadsOctets xs row) (sym is)
    (of_lanes xs row (λ k l. Each1-get_or (λ x. x < 256) xs k 0 (omega (arith, size)) (below_from_Fits w8 xs fits)) size
    known)

-- ---- the address that the text names

pub names_of_row : (xs text : List ℕ) (row : ℕ) (octets : List ℕ) → row < 81 → take (length text) xs ≡ text
    → end_of row ≡ length text → AreOctetsOf xs row octets
    → NamesV4 text (number_from_digits 256 octets)
names_of_row xs text row (a ∷ b ∷ c ∷ d ∷ []) known is long h =
    four_octets
    (octet_and_dot text 0 (first_count row) a (second_at row) (omega (arith, long))
    (same_byte (0 + first_count row) (omega (arith, long)) (ap (λ k. get_or xs k 0) zero_first ∙ h.first_dot))
    (omega arith)
    (same_octet 0 (first_count row) a (omega (arith, long)) h.first))
    (octet_and_dot text (second_at row) (second_count row) b (third_at row) (omega (arith, long))
    (same_byte (second_at row + second_count row) (omega (arith, long)) h.second_dot) refl
    (same_octet (second_at row) (second_count row) b (omega (arith, long)) h.second))
    (octet_and_dot text (third_at row) (third_count row) c (fourth_at row) (omega (arith, long))
    (same_byte (third_at row + third_count row) (omega (arith, long)) h.third_dot) refl
    (same_octet (third_at row) (third_count row) c (omega (arith, long)) h.third))
    (subst (λ (s : List ℕ). IsOctet s d) (ap (λ k. take k (drop (fourth_at row) text)) left
    ∙ take_rest text (fourth_at row))
    (same_octet (fourth_at row) (fourth_count row) d (omega (arith, long)) h.fourth))
  where
    zero_first : 0 + first_count row ≡ first_count row
    zero_first = omega arith

    left : fourth_count row ≡ length text - fourth_at row
    left = omega (arith, long)

    same_byte : (k : ℕ) → k < length text → get_or xs k 0 ≡ dot → get_or text k 0 ≡ dot
    same_byte k l here = ap (λ t. get_or t k 0) (sym is) ∙ get_or-take (length text) xs k 0 l ∙ here

    same_octet : (at count n : ℕ) → at + count ≤ length text → IsOctet (take count (drop at xs)) n
        → IsOctet (take count (drop at text)) n
    same_octet at count n within o =
        subst (λ (s : List ℕ). IsOctet s n)
        (sym (ap (λ t. take count (drop at t)) (sym is) ∙ same_part xs (length text) at count within)) o
names_of_row xs text row [] known is long h = absurd (omega (arith, h.four))
names_of_row xs text row (a ∷ []) known is long h = absurd (omega (arith, h.four))
names_of_row xs text row (a ∷ b ∷ []) known is long h = absurd (omega (arith, h.four))
names_of_row xs text row (a ∷ b ∷ c ∷ []) known is long h = absurd (omega (arith, h.four))
names_of_row xs text row (a ∷ b ∷ c ∷ d ∷ e ∷ more) known is long h = absurd (omega (arith, h.four))

pub some_names : (xs text : List ℕ) (row : ℕ) (found : Option (List ℕ)) → row < 81 → take (length text) xs ≡ text
    → end_of row ≡ length text
    → IfSome found (AreOctetsOf xs row) → IfSome found (λ octets. NamesV4 text (number_from_digits 256 octets))
some_names xs text row None known is long h = tt
some_names xs text row (Some octets) known is long h = names_of_row xs text row octets known is long h
