-- Segments and the address that they make up.
use Rattle.ipnetwork_addr.proofs.Words.{◌≡◌, ℕ, zero, suc, ◌+◌, ◌*◌, ◌^◌, ◌<◌, ◌≤◌, List, length, take, get_or, ap, subst, ◌∙◌, arith, lit<, number_more, take_all, pow-add, segments_of, number_of_segments, AreSegments}

-- the number of the first segments fits in their bits
first_fits : (xs : List ℕ) (count : ℕ) → count ≤ length xs → ((i : ℕ) → get_or xs i 0 < 65536)
    → number_of_segments (take count xs) < 65536 ^ count
first_fits xs zero within fit = lit< tt
first_fits xs (suc count) within fit =
    let next : suc count ≡ count + 1 = omega arith in
    let number : number_of_segments (take (suc count) xs) ≡ number_of_segments (take count xs) * 65536 + get_or
    xs count 0 =
    ap (λ k. number_of_segments (take k xs)) next ∙ number_more 65536 xs count within in
    let power : 65536 ^ suc count ≡ 65536 ^ count * 65536 = ap (λ k. 65536 ^ k) next ∙ pow-add 65536 count 1 in
    omega (arith, number, power, first_fits xs count (omega arith) fit, fit count)

pub address_fits : (xs : List ℕ) → AreSegments xs → number_of_segments xs < 2 ^ 128
address_fits xs h = subst (λ (l : List ℕ). number_of_segments l < 65536 ^ 8) (take_all 8 xs (omega (arith, h.eight)))
    (first_fits xs 8 (omega (arith, h.eight)) h.each)

-- the segments of an address make up the address
pub number_back : (n : ℕ) → n < 2 ^ 128 → number_of_segments (segments_of n) ≡ n
number_back n h = omega arith

-- segments that are those of a number make up the number
pub made_of : (segments : List ℕ) (n : ℕ) → n < 2 ^ 128 → segments ≡ segments_of n → number_of_segments segments ≡ n
made_of segments n fits e = ap number_of_segments e ∙ number_back n fits
