-- The bytes of address texts, as a test.
use Rattle.line_addresses.proofs.Words.{◌≡◌, ℕ, ◌≤◌, ◌==◌, ◌⊎◌, Bool, true, false, refl, arith, inl, inr, is_in_range, eqb-true, nat_tests, is_address_byte, is_ascii_digit, is_mark, IsAddressByte, Digit, UpperHex, LowerHex, Dot, Colon}
use Rattle.std.proofs.Common.{◌||◌}

pub passes : (byte : ℕ) → IsAddressByte byte → is_address_byte byte ≡ true
passes byte (Digit low high) = grind (arith, nat_tests)
passes byte (UpperHex low high) = grind (arith, nat_tests)
passes byte (LowerHex low high) = grind (arith, nat_tests)
passes byte (Dot is) = grind (arith, nat_tests)
passes byte (Colon is) = grind (arith, nat_tests)

either_true : (a b : Bool) → (a || b) ≡ true → (a ≡ true) ⊎ (b ≡ true)
either_true true b e = inl refl
either_true false b e = inr e

in_range : (low high byte : ℕ) → is_in_range low high byte ≡ true → (low ≤ byte) × (byte ≤ high)
in_range low high byte e = (grind (arith, nat_tests), grind (arith, nat_tests))

by_letters : (byte : ℕ) → (is_in_range 48 57 byte || is_in_range 65 70 byte || is_in_range 97 102 byte) ≡ true
    → IsAddressByte byte
by_letters byte e = elim (either_true (is_in_range 48 57 byte || is_in_range 65 70 byte) (is_in_range 97 102 byte) e) [
  | inl more ↦ elim (either_true (is_in_range 48 57 byte) (is_in_range 65 70 byte) more) [
    | inl digit ↦ let r = in_range 48 57 byte digit in Digit r.0 r.1
    | inr upper ↦ let r = in_range 65 70 byte upper in UpperHex r.0 r.1
  ]
  | inr lower ↦ let r = in_range 97 102 byte lower in LowerHex r.0 r.1
]

pub passed : (byte : ℕ) → is_address_byte byte ≡ true → IsAddressByte byte
passed byte e = elim (either_true
    (is_in_range 48 57 byte || is_in_range 65 70 byte || is_in_range 97 102 byte || byte == 46) (byte == 58) e) [
      | inl more ↦ elim (either_true (is_in_range 48 57 byte || is_in_range 65 70 byte || is_in_range 97 102 byte)
          (byte == 46) more) [
            | inl letter ↦ by_letters byte letter
            | inr dot ↦ Dot (eqb-true byte 46 dot)
          ]
      | inr colon ↦ Colon (eqb-true byte 58 colon)
    ]

pub mark_passes : (byte : ℕ) → is_mark byte ≡ true → is_address_byte byte ≡ true
mark_passes byte e = elim (either_true (byte == 46) (byte == 58) e) [
  | inl dot ↦ passes byte (Dot (eqb-true byte 46 dot))
  | inr colon ↦ passes byte (Colon (eqb-true byte 58 colon))
]

pub digit_passes : (byte : ℕ) → is_ascii_digit byte ≡ true → is_address_byte byte ≡ true
digit_passes byte e = let r = in_range 48 57 byte e in passes byte (Digit r.0 r.1)
