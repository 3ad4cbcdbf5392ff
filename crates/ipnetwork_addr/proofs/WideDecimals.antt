-- Long decimals: their lengths, and writing them in parts.
use Rattle.ipnetwork_addr.proofs.Words.{◌≡◌, ℕ, zero, suc, ◌+◌, ◌-◌, ◌*◌, ◌/◌, ◌%◌, ◌^◌, ◌<◌, ◌≤◌, List, [], ◌∷◌, ◌++◌, length, decimal, refl, sym, ap, ◌∙◌, arith, add-one, append_assoc, length-append, mul-le-mul_right, decimal_digit, decimal_step, decimal_step_wide, decimal_by_steps, length-decimal-le, pow-succ', padded_decimal}
use Rattle.std.proofs.lemmas.List.{append-nil}
use Rattle.ipnetwork_addr.proofs.Decimals.{IsPushed}

pub length-decimal_step : (n : ℕ) → 10 ≤ n → n < 2 ^ 64 → length (decimal n) ≡ length (decimal (n / 10)) + 1
length-decimal_step n low high =
    ap length (decimal_step n low high) ∙ length-append (decimal (n / 10)) ((48 + n % 10) ∷ [])

pub length-decimal_digit : (n : ℕ) → n < 10 → length (decimal n) ≡ 1
length-decimal_digit n h = ap length (decimal_digit n h)

pub length-padded : (count n : ℕ) → length (padded_decimal count n) ≡ count
unfolding padded_decimal
length-padded zero n = refl
length-padded (suc count) n =
    length-append (padded_decimal count (n / 10)) ((48 + n % 10) ∷ []) ∙ omega (arith, length-padded count (n / 10))

pub padded_step : (count n : ℕ) → 0 < count → padded_decimal count n ≡ padded_decimal (count - 1) (n / 10)
    ++ (48 + n % 10) ∷ []
unfolding padded_decimal
padded_step zero n h = absurd (omega arith)
padded_step (suc count) n h =
    let e : suc count - 1 ≡ count = omega arith in
    rw e refl

-- a number in two parts: its last digits, and the number above them
pub decimal-parts : (count high low : ℕ) → 0 < high → low < 10 ^ count → high * 10 ^ count + low < 10 ^ 64
    → decimal (high * 10 ^ count + low) ≡ decimal high ++ padded_decimal count low
unfolding padded_decimal
decimal-parts zero high low positive fits small =
    let e : high * 10 ^ 0 + low ≡ high = omega arith in
    ap decimal e ∙ sym (append-nil (decimal high))
decimal-parts (suc count) high low positive fits small =
    let power : 10 ^ suc count ≡ 10 * 10 ^ count = pow-succ' 10 count in
    let product : high * 10 ^ suc count ≡ 10 * (high * 10 ^ count) = ap (λ p. high * p) power ∙ omega arith in
    let above : 1 * 10 ^ count ≤ high * 10 ^ count = mul-le-mul_right (10 ^ count) positive in
    let front : (high * 10 ^ suc count + low) / 10 ≡ high * 10 ^ count + low / 10 = omega arith in
    let last : (high * 10 ^ suc count + low) % 10 ≡ low % 10 = omega arith in
    let more : 10 ≤ high * 10 ^ suc count + low = omega arith in
    let below : low / 10 < 10 ^ count = omega arith in
    let rest : high * 10 ^ count + low / 10 < 10 ^ 64 = omega arith in
    decimal_step_wide (high * 10 ^ suc count + low) more small
    ∙ rw (front, last, decimal-parts count high (low / 10) positive below rest, append_assoc)

-- a text after the last digits of a number are pushed
pub padded_none : (text : List ℕ) (count n : ℕ) → count ≡ 0 → text ≡ text ++ padded_decimal count n
unfolding padded_decimal
padded_none text count n none = rw none (sym (append-nil text))

pub padded_one : (text one : List ℕ) (count n d : ℕ) → count ≡ 1 → d ≡ 48 + n % 10 → one ≡ text ++ d ∷ []
    → one ≡ text ++ padded_decimal count n
unfolding padded_decimal
padded_one text one count n d single is_d h = h ∙ rw (single, is_d) refl

pub padded_pushed : (text most one two : List ℕ) (count n d e : ℕ) → 2 ≤ count
    → most ≡ text ++ padded_decimal (count - 2) (n / 100)
    → d ≡ 48 + n % 100 / 10 → e ≡ 48 + n % 100 % 10 → one ≡ most ++ d ∷ [] → two ≡ one ++ e ∷ []
    → two ≡ text ++ padded_decimal count n
padded_pushed text most one two count n d e some h is_d is_e k l =
    let tens : d ≡ 48 + n / 10 % 10 = is_d ∙ (omega arith) in
    let ones : e ≡ 48 + n % 10 = is_e ∙ (omega arith) in
    let rest : n / 10 / 10 ≡ n / 100 = omega arith in
    let less : count - 1 - 1 ≡ count - 2 = omega arith in
    let step : padded_decimal (count - 1) (n / 10) ≡ padded_decimal (count - 2) (n / 100) ++ (48 + n / 10 % 10) ∷ []
    = padded_step (count - 1) (n / 10) (omega arith) ∙ rw (less, rest) refl in
    l ∙ rw (k, h, tens, ones, padded_step count n (omega arith), step, append_assoc, append_assoc, append_assoc) refl

-- the last digits of a number, as many as its shortest decimal form has, are that form
pub padded-shortest : (n : ℕ) → n < 2 ^ 64 → padded_decimal (length (decimal n)) n ≡ decimal n
unfolding padded_decimal
padded-shortest n small =
    decimal_by_steps (λ m ds. padded_decimal (length ds) m ≡ ds)
    (λ m h. ap (λ d. (48 + d) ∷ []) (omega arith))
    (λ m ds h same. rw (length-append ds ((48 + m % 10) ∷ []), add-one)
    (ap (λ front. front ++ (48 + m % 10) ∷ []) same))
    n small

pub shortest_pushed : (text one : List ℕ) (n count : ℕ) → n < 2 ^ 64 → count ≡ length (decimal n)
    → one ≡ text ++ padded_decimal count n
    → one ≡ text ++ decimal n
shortest_pushed text one n count small counted h = h ∙ ap (λ d. text ++ d) (rw counted (padded-shortest n small))

-- of the digits of a number, all but those of `rest` are counted, and one more
abbrev pub CountsDigits : ℕ → ℕ → ℕ → Type 0
CountsDigits n count rest = length (decimal n) + 1 ≡ count + length (decimal rest)

pub counted_step : (n count rest : ℕ) → 10 ≤ rest → rest < 2 ^ 64 → CountsDigits n count rest
    → CountsDigits n (count + 1) (rest / 10)
counted_step n count rest low fits all = omega (arith, all, length-decimal_step rest low fits)

pub counted_end : (n count rest : ℕ) → rest < 10 → CountsDigits n count rest → count ≡ length (decimal n)
counted_end n count rest last all = omega (arith, all, length-decimal_digit rest last)

-- no 64-bit number has more than 20 digits
pub counted_few : (n count rest : ℕ) → n < 2 ^ 64 → CountsDigits n count rest → count ≤ 21
counted_few n count rest fits all = omega (arith, all, length-decimal-le 20 n (omega arith) (omega arith) fits)

pub count_few : (n count : ℕ) → n < 2 ^ 64 → count ≡ length (decimal n) → count ≤ 20
count_few n count fits e = omega (arith, e, length-decimal-le 20 n (omega arith) (omega arith) fits)

pub digit_pushed : {text one : List ℕ} (n : ℕ) → n < 10 → IsPushed text (48 + n) one → one ≡ text ++ decimal n
digit_pushed n small h = h.is ∙ rw (decimal_digit n small)

-- a number of up to 39 digits, divided into its last 19 digits and the number above them
pub record IsDivided (n high low : ℕ) : Type 0 where
  pub is_high : high ≡ n / 10 ^ 19
  pub is_low : low ≡ n % 10 ^ 19

pub parts_two : {n high low : ℕ} → n < 2 ^ 128 → IsDivided n high low → 0 < high
    → decimal n ≡ decimal high ++ padded_decimal 19 low
parts_two {n} {high} {low} fits divided some =
    let whole : n ≡ high * 10 ^ 19 + low = omega (arith, divided.is_high, divided.is_low) in
    let below : low < 10 ^ 19 = omega (arith, divided.is_low) in
    rw whole (decimal-parts 19 high low some below (omega arith))

pub two_pushed : (text one two : List ℕ) {n high low : ℕ} → n < 2 ^ 128 → IsDivided n high low → 0 < high
    → one ≡ text ++ decimal high → two ≡ one ++ padded_decimal 19 low → two ≡ text ++ decimal n
two_pushed text one two fits divided some h k = k ∙ rw (h, parts_two fits divided some, append_assoc)

pub three_pushed : {text one : List ℕ} (two three : List ℕ) {n high top middle low : ℕ} → n < 2 ^ 128
    → IsDivided n high low → 10 ^ 19 ≤ high → IsDivided high top middle
    → IsPushed text (48 + top) one → two ≡ one ++ padded_decimal 19 middle → three ≡ two ++ padded_decimal 19 low
    → three ≡ text ++ decimal n
three_pushed {text} {one} two three {n} {high} {top} fits divided large upper h k l =
    let small : high < 2 ^ 128 = omega (arith, divided.is_high) in
    let digit : top < 10 = omega (arith, upper.is_high, divided.is_high) in
    let some : 0 < top = omega (arith, upper.is_high) in
    two_pushed text two three fits divided (omega arith)
    (two_pushed text one two small upper some (digit_pushed top digit h) k) l
