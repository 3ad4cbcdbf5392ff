-- A group in shortest lower-case hex, and such groups joined by colons: the same texts in both libraries.
use Rattle.ipnetwork_witness.proofs.Words.{◌≡◌, false, ℕ, ◌/◌, ◌%◌, ◌^◌, ◌<◌, List, [], ◌∷◌, ◌++◌, map, flat_map, refl, ap, ap₂, ◌∙◌, arith, inl, inr, le-leb, cases_lt, lt-leb, hex_one_digit, hex_two_digits, flat_map-map, digit_char, AllBelowBase, colon, hex, hex_groups, hex_three, hex_four}
use Rattle.std.specs.Net.Text as std
use Rattle.ipnetwork_witness.proofs.Colons.{joined-cons}

-- ---- a group

pub same_hex : (n : ℕ) → n < 2 ^ 16 → hex n ≡ std.hex n
unfolding std.hex
same_hex n fits = elim (cases_lt n 0x1000) [
  | inr h₄ ↦ hex_four n h₄ fits ∙ rw (le-leb 0x1000 n h₄)
  | inl h₃ ↦ elim (cases_lt n 0x100) [
    | inr low ↦
        let top : n / 0x100 ≡ n / 0x100 % 16 = omega arith in
        hex_three n low h₃ ∙ ap (λ d. digit_char d ∷ digit_char (n / 0x10 % 16) ∷ digit_char (n % 16) ∷ []) top
        ∙ rw (lt-leb 0x1000 n h₃, le-leb 0x100 n low)
    | inl h₂ ↦ elim (cases_lt n 0x10) [
      | inr low ↦
          let top : n / 16 ≡ n / 16 % 16 = omega arith in
          hex_two_digits false n low h₂ ∙ ap (λ d. digit_char d ∷ digit_char (n % 16) ∷ []) top
          ∙ rw (lt-leb 0x1000 n h₃, lt-leb 0x100 n h₂, le-leb 0x10 n low)
      | inl h₁ ↦
          let top : n ≡ n % 16 = omega arith in
          hex_one_digit false n h₁ ∙ ap (λ d. digit_char d ∷ []) top
          ∙ rw (lt-leb 0x1000 n h₃, lt-leb 0x100 n h₂, lt-leb 0x10 n h₁)
    ]
  ]
]

-- ---- groups

same_behind : (groups : List ℕ) → AllBelowBase (2 ^ 16) groups
    → flat_map (λ g. colon ∷ hex g) groups ≡ flat_map (λ g. colon ∷ std.hex g) groups
same_behind [] fit = refl
same_behind (g ∷ groups) fit = ap₂ (λ x y. (colon ∷ x) ++ y) (same_hex g fit.0) (same_behind groups fit.1)

pub same_groups : (groups : List ℕ) → AllBelowBase (2 ^ 16) groups → hex_groups groups ≡ std.groups_text groups
same_groups [] fit = refl
same_groups (g ∷ groups) fit =
    joined-cons (hex g) (map hex groups)
    ∙ ap (λ t. hex g ++ t) (flat_map-map (λ part. colon ∷ part) hex groups)
    ∙ ap₂ (λ x y. x ++ y) (same_hex g fit.0) (same_behind groups fit.1)
