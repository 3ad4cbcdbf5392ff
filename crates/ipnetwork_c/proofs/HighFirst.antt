-- The octets of a number, the highest first.
use Rattle.ipnetwork_c.proofs.Words.{◌≡◌, ℕ, zero, suc, ◌+◌, ◌*◌, ◌/◌, ◌%◌, ◌^◌, List, [], ◌∷◌, ◌++◌, refl, sym, ap, ◌∙◌, append_assoc, arith, digits_in}
use mathlib.Core.List.{reverse, reverse_aux}
use lib.Lanes.{digits_l, number_l}

-- the digits of a number, the lowest first, reversed and put before others
turned_before : (count n : ℕ) (rest : List ℕ) → reverse_aux (digits_l 256 count n) rest ≡ digits_in 256 count n ++ rest
turned_before zero n rest = refl
turned_before (suc count) n rest =
    turned_before count (n / 256) (n % 256 ∷ rest)
    ∙ sym (append_assoc (digits_in 256 count (n / 256)) (n % 256 ∷ []) rest)

-- the octets of the two halves, the lowest first, reversed
pub turned_halves : (n : ℕ) → reverse (digits_l 256 16 (number_l (2 ^ 64) (n % 2 ^ 64 ∷ n / 2 ^ 64 ∷ [])))
    ≡ digits_in 256 16 n
turned_halves n =
    let whole : n % 2 ^ 64 + 2 ^ 64 * (n / 2 ^ 64 + 2 ^ 64 * 0) ≡ n = omega arith in
    turned_before 16 (n % 2 ^ 64 + 2 ^ 64 * (n / 2 ^ 64 + 2 ^ 64 * 0)) [] ∙ ap (digits_in 256 16) whole
