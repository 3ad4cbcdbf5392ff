-- The shortest hex form of a group, digit by digit.
use Rattle.ipnetwork_addr.proofs.Words.{◌≡◌, ◌≢◌, false, ℕ, ◌/◌, ◌%◌, ◌^◌, ◌<◌, ◌≤◌, inl, inr, lit≤, List, [], ◌∷◌, ◌++◌, sym, ap, ◌∙◌, arith, append_assoc, append-nil, flat_map, length, get_or, take, drop, digits, digit_glyph, cases_lt, hex_one_digit, hex_two_digits, colon, hex, hex_groups}
use Rattle.std.proofs.Common.{take_all, ne_eqb, eq-eqb}
use Rattle.ipnetwork_addr.proofs.Decimals.{IsPushed}

abbrev glyph : ℕ → ℕ
glyph d = digit_glyph false d

pub hex_three : (n : ℕ) → 256 ≤ n → n < 4096 → hex n ≡ glyph (n / 256) ∷ glyph (n / 16 % 16) ∷ glyph (n % 16) ∷ []
unfolding digits
hex_three n low high =
    let first : n / 16 ≢ 0 = omega arith in
    let second : n / 16 / 16 ≢ 0 = omega arith in
    let third : n / 16 / 16 / 16 ≡ 0 = omega arith in
    let top : n / 16 / 16 % 16 ≡ n / 256 = omega arith in
    rw (ne_eqb (n / 16) 0 first, ne_eqb (n / 16 / 16) 0 second, eq-eqb (n / 16 / 16 / 16) 0 third, top)

pub hex_four : (n : ℕ) → 4096 ≤ n → n < 65536 → hex n ≡ glyph (n / 4096) ∷ glyph (n / 256 % 16) ∷ glyph (n / 16 % 16)
    ∷ glyph (n % 16) ∷ []
unfolding digits
hex_four n low high =
    let first : n / 16 ≢ 0 = omega arith in
    let second : n / 16 / 16 ≢ 0 = omega arith in
    let third : n / 16 / 16 / 16 ≢ 0 = omega arith in
    let fourth : n / 16 / 16 / 16 / 16 ≡ 0 = omega arith in
    let top : n / 16 / 16 / 16 % 16 ≡ n / 4096 = omega arith in
    let next : n / 16 / 16 ≡ n / 256 = omega arith in
    rw (
      ne_eqb (n / 16) 0 first,
      ne_eqb (n / 16 / 16) 0 second,
      ne_eqb (n / 16 / 16 / 16) 0 third,
      eq-eqb (n / 16 / 16 / 16 / 16) 0 fourth,
      top,
      next,
    )

pub length-hex-le : (g : ℕ) → g < 2 ^ 16 → length (hex g) ≤ 4
length-hex-le g fits = elim (cases_lt g 16) [
  | inl one ↦ rw (hex_one_digit false g one) (lit≤ tt)
  | inr h ↦ elim (cases_lt g 256) [
    | inl two ↦ rw (hex_two_digits false g h two) (lit≤ tt)
    | inr h ↦ elim (cases_lt g 4096) [
      | inl three ↦ rw (hex_three g h three) (lit≤ tt)
      | inr h ↦ rw (hex_four g h fits) (lit≤ tt)
    ]
  ]
]

-- a text after the digits of a group are pushed one at a time
pub pushed_one : {text one : List ℕ} (n : ℕ) → n < 16 → IsPushed text (glyph n) one → one ≡ text ++ hex n
pushed_one n high h = h.is ∙ rw (hex_one_digit false n high)

pub pushed_two : {text one two : List ℕ} (n : ℕ) → 16 ≤ n → n < 256 → IsPushed text (glyph (n / 16)) one
    → IsPushed one (glyph (n % 16)) two → two ≡ text ++ hex n
pushed_two n low high h k = k.is ∙ rw (h.is, hex_two_digits false n low high, append_assoc)

pub pushed_three : {text one two three : List ℕ} (n : ℕ) → 256 ≤ n → n < 4096 → IsPushed text (glyph (n / 256)) one
    → IsPushed one (glyph (n / 16 % 16)) two
    → IsPushed two (glyph (n % 16)) three → three ≡ text ++ hex n
pushed_three n low high h k l = l.is ∙ rw (k.is, h.is, hex_three n low high, append_assoc, append_assoc)

pub pushed_four : {text one two three four : List ℕ} (n : ℕ) → 4096 ≤ n → n < 65536
    → IsPushed text (glyph (n / 4096)) one → IsPushed one (glyph (n / 256 % 16)) two
    → IsPushed two (glyph (n / 16 % 16)) three → IsPushed three (glyph (n % 16)) four → four ≡ text ++ hex n
pushed_four n low high h k l m = m.is
    ∙ rw (l.is, k.is, h.is, hex_four n low high, append_assoc, append_assoc, append_assoc)

-- groups, each with a colon before it
pub hex_groups-cons : (g : ℕ) (groups : List ℕ) → hex_groups (g ∷ groups) ≡ hex g
    ++ flat_map (λ x. colon ∷ hex x) groups
hex_groups-cons g [] = sym (append-nil (hex g))
hex_groups-cons g (next ∷ groups) = ap (λ t. hex g ++ colon ∷ t) (hex_groups-cons next groups)

pub groups_pushed : (text one all groups rest : List ℕ) (i : ℕ) → rest ≡ drop 1 groups → 0 < length groups
    → one ≡ text ++ hex (get_or groups 0 0) → length rest ≤ i → all ≡ one ++ flat_map (λ x. colon ∷ hex x) (take i rest)
    → all ≡ text ++ hex_groups groups
groups_pushed text one all [] rest i is_rest some h end k = absurd (omega arith)
groups_pushed text one all (g ∷ groups) rest i is_rest some h end k =
    k ∙ rw (h, take_all i rest end, is_rest, hex_groups-cons g groups, append_assoc)
