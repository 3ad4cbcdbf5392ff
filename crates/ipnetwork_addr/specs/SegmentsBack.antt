-- Why an IPv6 address is determined by its number: eight segments are the segments of their number.
use Rattle.std.specs.Prelude.{◌≡◌, ℕ, zero, suc, ◌+◌, ◌-◌, ◌*◌, ◌/◌, ◌%◌, ◌<◌, ◌≤◌, List, [], ◌∷◌, ◌++◌, length, take}
use Rattle.std.specs.Prelude.{reverse}
use Rattle.std.proofs.Common.{get_or, refl, sym, ap, subst, ◌∙◌, ⊎_elim, lit<}
use Rattle.std.proofs.Math.Nat.{le_of_eq, le_of_lt, le_trans}
use Rattle.std.proofs.Math.Seq.{take-suc}
use Rattle.std.proofs.lemmas.Int.Digits.{number_push}
use Rattle.std.proofs.lemmas.Bool.{cases_lt}
use Rattle.std.proofs.lemmas.List.{take_all, length-reverse, get_or-reverse, get_or_past, reverse-reverse}
use Rattle.std.proofs.lemmas.Nat.{div-mul-add, mod-mul-add}
use Rattle.ipnetwork_addr.specs.Digits.{digits_in, segments_of}
use Rattle.ipnetwork_addr.specs.Segments.{number_of_segments, AreSegments}

-- the first `count` digits of a list are the digits of the number that they make up
first_back : (xs : List ℕ) (count : ℕ) → count ≤ length xs → ((i : ℕ) → get_or xs i 0 < 65536)
    → digits_in 65536 count (number_of_segments (take count xs)) ≡ take count xs
first_back xs zero within fit = refl
first_back xs (suc count) within fit =
    let front : ℕ = number_of_segments (take count xs) in
    let last : ℕ = get_or xs count 0 in
    let more : take (suc count) xs ≡ take count xs ++ last ∷ [] = take-suc xs count 0 within in
    let number : number_of_segments (take (suc count) xs) ≡ front * 65536 + last =
    ap number_of_segments more ∙ number_push 65536 (take count xs) last in
    let quotient : number_of_segments (take (suc count) xs) / 65536 ≡ front =
    ap (λ n. n / 65536) number ∙ div-mul-add front 65536 last (fit count) in
    let remainder : number_of_segments (take (suc count) xs) % 65536 ≡ last =
    ap (λ n. n % 65536) number ∙ mod-mul-add front 65536 last (fit count) in
    ap (λ n. digits_in 65536 count n ++ number_of_segments (take (suc count) xs) % 65536 ∷ []) quotient
    ∙ ap (λ d. digits_in 65536 count front ++ d ∷ []) remainder
    ∙ ap (λ digits. digits ++ last ∷ []) (first_back xs count (le_of_lt within) fit)
    ∙ sym more

pub segments_back : (xs : List ℕ) → AreSegments xs → segments_of (number_of_segments xs) ≡ xs
segments_back xs are =
    let all : take 8 xs ≡ xs = take_all 8 xs (le_of_eq are.eight) in
    sym (ap (λ segments. segments_of (number_of_segments segments)) all) ∙ first_back xs 8
    (le_of_eq (sym are.eight)) are.each ∙ all

-- ---- lowest segment first

pub reversed_segments : (xs : List ℕ) → AreSegments xs → AreSegments (reverse xs)
reversed_segments xs are = record {
  eight = length-reverse xs ∙ are.eight;
  each = λ i. ⊎_elim
      (λ (within : i < length xs). subst (λ (d : ℕ). d < 65536) (sym (get_or-reverse xs i 0 within))
      (are.each (length xs - 1 - i)))
      (λ (past : length xs ≤ i). subst (λ (d : ℕ). d < 65536)
      (sym (get_or_past (reverse xs) i 0 (le_trans (le_of_eq (length-reverse xs)) past))) (lit< tt))
      (cases_lt i (length xs));
}

-- eight segments, lowest first, are the segments of their address
pub low_first_back : (xs : List ℕ) → AreSegments xs → reverse (segments_of (number_of_segments (reverse xs))) ≡ xs
low_first_back xs are = ap reverse (segments_back (reverse xs) (reversed_segments xs are)) ∙ reverse-reverse xs
