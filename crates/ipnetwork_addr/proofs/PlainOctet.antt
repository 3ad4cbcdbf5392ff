-- Octet texts in elementary terms.
use Rattle.ipnetwork_addr.proofs.Words.{◌≡◌, ℕ, ◌^◌, ◌<◌, ◌≤◌, inl, inr, List, length, get_or, decimal, sym, ap, ◌∙◌, arith, cases_lt, AllDigits, digits_value, IsNumeralModel, numerals_by_value, tells_digits, decimal_digit, decimal_is_IsNumeral, length-decimal-le, first_decimal, decimal-digits_value, IsOctet, IsPlainOctet}

own : IsNumeralModel (AllDigits 10) (digits_value 10)
own = numerals_by_value (AllDigits 10) tells_digits

leading : (n : ℕ) → n ≤ 255 → get_or (decimal n) 0 0 ≡ 48 → length (decimal n) ≡ 1
leading n bound e = elim (cases_lt 0 n) [
  | inl positive ↦ let above = first_decimal n positive (omega arith) in absurd (omega arith)
  | inr zero ↦ ap length (decimal_digit n (omega arith))
]

pub plain_from_octet : (text : List ℕ) (n : ℕ) → IsOctet text n → IsPlainOctet text n
plain_from_octet text n h =
    let (numeral, value) = decimal_is_IsNumeral n (omega (arith, h.0)) in
    rw h.1 (record {
      digits = numeral;
      short = length-decimal-le 3 n (omega arith) (omega (arith, h.0)) (omega (arith, h.0));
      value = value;
      bound = h.0;
      no_leading_zero = leading n h.0;
    })

pub octet_from_plain : (text : List ℕ) (n : ℕ) → IsPlainOctet text n → IsOctet text n
octet_from_plain text n h =
    let fits : digits_value 10 text < 2 ^ 64 = omega (arith, h.value, h.bound) in
    (h.bound, sym (decimal-digits_value own text h.digits.1 h.digits.0 h.no_leading_zero fits) ∙ ap decimal h.value)
