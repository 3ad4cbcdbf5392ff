-- The digits of an address, from its number and from pairs of bytes.
use Rattle.ipnetwork_witness.proofs.Words.{◌≡◌, ℕ, zero, suc, ◌+◌, ◌*◌, ◌/◌, ◌%◌, ◌^◌, ◌<◌, List, [], ◌∷◌, ◌++◌, length, refl, sym, ap, ap₂, ◌∙◌, arith, append-nil, append_assoc, length-append, div-lt_iff_lt-mul, pow-zero, pow-suc, div-mul-add, mod-mul-add, div-add-mod', number_push, number_from_digits, number_from_digits_after, AllBelowBase, digits_in}
use Rattle.std.specs.Net.Addr.{segments_of}

pub length-digits_in : (base count n : ℕ) → length (digits_in base count n) ≡ count
length-digits_in base zero n = refl
length-digits_in base (suc count) n =
    omega
    (arith, length-append (digits_in base count (n / base)) (n % base ∷ []), length-digits_in base count (n / base))

-- ---- a number and its digits

pub number-digits_in : (base count n : ℕ) → 0 < base → n < base ^ count
    → n ≡ number_from_digits base (digits_in base count n)
number-digits_in base zero n some fits = omega (arith, fits, pow-zero base)
number-digits_in base (suc count) n some fits =
    let front : n / base < base ^ count = (div-lt_iff_lt-mul some).1 (rw pow-suc at fits) in
    sym (number_push base (digits_in base count (n / base)) (n % base)
    ∙ ap (λ m. m * base + n % base) (sym (number-digits_in base count (n / base) some front))
    ∙ div-add-mod' n base)

last_digit : (base count n d : ℕ) → d < base
    → digits_in base (suc count) (n * base + d) ≡ digits_in base count n ++ d ∷ []
last_digit base count n d fits =
    ap₂ (λ m e. digits_in base count m ++ e ∷ []) (div-mul-add n base d fits) (mod-mul-add n base d fits)

digits_behind : (base : ℕ) (ds : List ℕ) (count n all : ℕ) → AllBelowBase base ds → all ≡ count + length ds
    → digits_in base all (number_from_digits_after base n ds) ≡ digits_in base count n ++ ds
digits_behind base [] count n all fit e =
    let same : all ≡ count = omega (arith, e) in
    ap (λ i. digits_in base i n) same ∙ sym (append-nil (digits_in base count n))
digits_behind base (d ∷ ds) count n all fit e =
    digits_behind base ds (suc count) (n * base + d) all fit.1 (omega (arith, e))
    ∙ ap (λ t. t ++ ds) (last_digit base count n d fit.0)
    ∙ append_assoc (digits_in base count n) (d ∷ []) ds

pub digits_in-number : (base count : ℕ) (ds : List ℕ) → length ds ≡ count → AllBelowBase base ds
    → digits_in base count (number_from_digits base ds) ≡ ds
digits_in-number base count ds long fit = digits_behind base ds 0 0 count fit (omega (arith, long))

-- ---- two digits in base 256 are one in base 2^16

abbrev pub double : ℕ → ℕ
double zero = zero
double (suc count) = suc (suc (double count))

segments_of-push : (count : ℕ) (bytes : List ℕ) (a b : ℕ) → length bytes ≡ double count
    → segments_of (bytes ++ a ∷ b ∷ []) ≡ segments_of bytes ++ (a * 256 + b) ∷ []
segments_of-push zero [] a b e = refl
segments_of-push zero (x ∷ bytes) a b e = absurd (omega (arith, e))
segments_of-push (suc count) [] a b e = absurd (omega (arith, e))
segments_of-push (suc count) (x ∷ []) a b e = absurd (omega (arith, e))
segments_of-push (suc count) (x ∷ y ∷ bytes) a b e =
    ap (λ t. (x * 256 + y) ∷ t) (segments_of-push count bytes a b (omega (arith, e)))

pub segments-digits_in : (count n : ℕ) → segments_of (digits_in 256 (double count) n) ≡ digits_in (2 ^ 16) count n
segments-digits_in zero n = refl
segments-digits_in (suc count) n =
    let front : List ℕ = digits_in 256 (double count) (n / 256 / 256) in
    let above : n / 256 / 256 ≡ n / 2 ^ 16 = omega arith in
    let lowest : n / 256 % 256 * 256 + n % 256 ≡ n % 2 ^ 16 = omega arith in
    ap segments_of (append_assoc front (n / 256 % 256 ∷ []) (n % 256 ∷ []))
    ∙ segments_of-push count front (n / 256 % 256) (n % 256) (length-digits_in 256 (double count) (n / 256 / 256))
    ∙ ap₂ (λ t d. t ++ d ∷ []) (segments-digits_in count (n / 256 / 256) ∙ ap (digits_in (2 ^ 16) count) above) lowest
