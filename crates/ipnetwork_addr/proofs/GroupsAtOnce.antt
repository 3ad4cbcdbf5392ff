-- A group of an IPv6 text, given its end and the values of its digits.
use Rattle.ipnetwork_addr.proofs.Words.{◌≡◌, ◌≢◌, ℕ, zero, suc, ◌+◌, ◌-◌, ◌*◌, ◌/◌, ◌%◌, ◌^◌, ◌<◌, ◌≤◌, List, ◌∷◌, length, drop, get_or, refl, sym, ap, ◌∙◌, subst, arith, lit≤, bit_and, min, inl, inr, cases_lt, drop_more, drop_all, and_mask, and_le_l, bit_at_and, bit_at-zero, bit_at, colon, ShowsValues, AreDigitsIn, group_in, NoHex, BeginsWithHex, BeginsWithGroup, IsGroupUpTo}
use Rattle.ipnetwork_addr.proofs.Groups.{one_hex, two_hexes, three_hexes, four_hexes}

-- ---- bits

no_bit : (word marks i : ℕ) → bit_and word marks ≡ 0 → bit_at marks i ≡ 1 → bit_at word i ≡ 0
no_bit word marks i none set =
    let e : min (bit_at word i) (bit_at marks i) ≡ 0 = sym (bit_at_and word marks i) ∙ ap (λ n. bit_at n i) none
    ∙ bit_at-zero i in
    omega (arith, e, set)

-- a byte of a number is below sixteen if its upper four bits are not set
below_sixteen : (q : ℕ) → q / 16 % 2 ≡ 0 → q / 32 % 2 ≡ 0 → q / 64 % 2 ≡ 0 → q / 128 % 2 ≡ 0 → q % 256 < 16
below_sixteen q a b c d = omega (arith, a, b, c, d)

are_digits : (word : ℕ) → word < 2 ^ 32 → bit_and word 4042322160 ≡ 0 → AreDigitsIn word
are_digits word fits none =
    let bit : (i : ℕ) → bit_at 4042322160 i ≡ 1 → bit_at word i ≡ 0 = λ i set. no_bit word 4042322160 i none set in
    let top : word / 16777216 % 256 < 16 = below_sixteen (word / 16777216) (omega (arith, bit 28 refl))
    (omega (arith, bit 29 refl)) (omega (arith, bit 30 refl)) (omega (arith, bit 31 refl)) in
    let second : word / 65536 % 256 < 16 = below_sixteen (word / 65536) (omega (arith, bit 20 refl))
    (omega (arith, bit 21 refl)) (omega (arith, bit 22 refl)) (omega (arith, bit 23 refl)) in
    let third : word / 256 % 256 < 16 = below_sixteen (word / 256) (omega (arith, bit 12 refl))
    (omega (arith, bit 13 refl)) (omega (arith, bit 14 refl)) (omega (arith, bit 15 refl)) in
    let last : word % 256 < 16 = below_sixteen word (omega (arith, bit 4 refl)) (omega (arith, bit 5 refl))
    (omega (arith, bit 6 refl)) (omega (arith, bit 7 refl)) in
    (omega (arith, top, fits), second, third, last)

pub last_are_digits : (word marks : ℕ) → word < 2 ^ 32 → bit_and (bit_and word marks) 4042322160 ≡ 0
    → AreDigitsIn (bit_and word marks)
last_are_digits word marks fits none =
    let under : bit_and word marks ≤ word = and_le_l word marks in
    are_digits (bit_and word marks) (omega (arith, under, fits)) none

-- ---- the digits of a group

hex_at : (text values : List ℕ) → ShowsValues text values → (p q r : ℕ) → p + 1 ≡ q → p + 4 ≡ r → p < length text
    → get_or values r 0 < 16
    → BeginsWithHex (drop p text) (get_or values r 0) (drop q text)
hex_at text values shown p q r next position within small =
    let at : get_or values (p + 4) 0 ≡ get_or values r 0 = ap (λ i. get_or values i 0) position in
    record {
      byte = get_or text p 0;
      value = shown p within (subst (λ (v : ℕ). v < 16) (sym at) small) ∙ at;
      below_sixteen = small;
      split = drop_more text p 0 within ∙ ap (λ i. get_or text p 0 ∷ drop i text) next;
    }

-- a group stops at the end of the text and at a colon
stops_at : (text : List ℕ) (end : ℕ) → end ≤ length text → (end < length text → get_or text end 0 ≡ colon)
    → NoHex (drop end text)
stops_at text end within there = elim (cases_lt end (length text)) [
  | inl more ↦ subst NoHex (sym (drop_more text end 0 more ∙ ap (λ b. b ∷ drop (end + 1) text) (there more))) (lit≤ tt)
  | inr none ↦ subst NoHex (sym (drop_all end text none)) (lit≤ tt)
]

module _ (text values : List ℕ) (at end word : ℕ) (shown : ShowsValues text values) (bytes : (i : ℕ)
    → get_or values i 0 < 256)
    (is : word ≡ get_or values end 0 * 16777216 + get_or values (end + 1) 0 * 65536 + get_or values (end + 2)
    0 * 256 + get_or values (end + 3) 0)
    (within : end ≤ length text) (there : end < length text → get_or text end 0 ≡ colon) where
  abbrev last_bytes : ℕ → ℕ
  last_bytes n = bit_and word (4294967295 / 2 ^ (32 - 8 * n))

  stops : NoHex (drop end text)
  stops = stops_at text end within there

  group : (n : ℕ) → at + n ≡ end → 1 ≤ n → n ≤ 4 → AreDigitsIn (last_bytes n)
      → BeginsWithGroup (drop at text) (group_in (last_bytes n)) (drop end text)
  group zero e some few digits = absurd (omega arith)
  group (suc zero) e some few digits =
      let d = last_bytes 1 in
      let low : d ≡ word % 2 ^ 8 = and_mask word 8 in
      let small : get_or values (end + 3) 0 < 16 = omega (arith, low, is, digits.3, bytes (end + 3)) in
      let value : get_or values (end + 3) 0 ≡ group_in d = omega (arith, low, is, digits.3, bytes (end + 3)) in
      subst (λ (g : ℕ). BeginsWithGroup (drop at text) g (drop end text)) value
      (one_hex (hex_at text values shown at end (end + 3) e (omega arith) (omega arith) small) stops)
  group (suc (suc zero)) e some few digits =
      let d = last_bytes 2 in
      let low : d ≡ word % 2 ^ 16 = and_mask word 16 in
      let a : get_or values (end + 2) 0 < 16 = omega (arith, low, is, digits.2, bytes (end + 2), bytes (end + 3)) in
      let b : get_or values (end + 3) 0 < 16 = omega (arith, low, is, digits.3, bytes (end + 3)) in
      let value : get_or values (end + 2) 0 * 16 + get_or values (end + 3) 0 ≡ group_in d =
      omega (arith, low, is, a, b) in
      subst (λ (g : ℕ). BeginsWithGroup (drop at text) g (drop end text)) value
      (two_hexes (hex_at text values shown at (at + 1) (end + 2) refl (omega arith) (omega arith) a)
      (hex_at text values shown (at + 1) end (end + 3) (omega arith) (omega arith) (omega arith) b) stops)
  group (suc (suc (suc zero))) e some few digits =
      let d = last_bytes 3 in
      let low : d ≡ word % 2 ^ 24 = and_mask word 24 in
      let a : get_or values (end + 1) 0 < 16 =
      omega (arith, low, is, digits.1, bytes (end + 1), bytes (end + 2), bytes (end + 3)) in
      let b : get_or values (end + 2) 0 < 16 = omega (arith, low, is, digits.2, bytes (end + 2), bytes (end + 3)) in
      let c : get_or values (end + 3) 0 < 16 = omega (arith, low, is, digits.3, bytes (end + 3)) in
      let value : (get_or values (end + 1) 0 * 16 + get_or values (end + 2) 0) * 16 + get_or values (end + 3)
      0 ≡ group_in d = omega (arith, low, is, a, b, c) in
      subst (λ (g : ℕ). BeginsWithGroup (drop at text) g (drop end text)) value
      (three_hexes (hex_at text values shown at (at + 1) (end + 1) refl (omega arith) (omega arith) a)
      (hex_at text values shown (at + 1) (at + 2) (end + 2) (omega arith) (omega arith) (omega arith) b)
      (hex_at text values shown (at + 2) end (end + 3) (omega arith) (omega arith) (omega arith) c) stops)
  group (suc (suc (suc (suc zero)))) e some few digits =
      let d = last_bytes 4 in
      let low : d ≡ word % 2 ^ 32 = and_mask word 32 in
      let a : get_or values end 0 < 16 =
      omega (arith, low, is, digits.0, bytes end, bytes (end + 1), bytes (end + 2), bytes (end + 3)) in
      let b : get_or values (end + 1) 0 < 16 =
      omega (arith, low, is, digits.1, bytes (end + 1), bytes (end + 2), bytes (end + 3), a) in
      let c : get_or values (end + 2) 0 < 16 =
      omega (arith, low, is, digits.2, bytes (end + 2), bytes (end + 3), a, b) in
      let l : get_or values (end + 3) 0 < 16 = omega (arith, low, is, digits.3, bytes (end + 3), a, b, c) in
      let value : ((get_or values end 0 * 16 + get_or values (end + 1) 0) * 16 + get_or values (end + 2) 0) * 16
      + get_or values (end + 3) 0 ≡ group_in d = omega (arith, low, is, a, b, c, l) in
      subst (λ (g : ℕ). BeginsWithGroup (drop at text) g (drop end text)) value
      (four_hexes (hex_at text values shown at (at + 1) end refl (omega arith) (omega arith) a)
      (hex_at text values shown (at + 1) (at + 2) (end + 1) (omega arith) (omega arith) (omega arith) b)
      (hex_at text values shown (at + 2) (at + 3) (end + 2) (omega arith) (omega arith) (omega arith) c)
      (hex_at text values shown (at + 3) end (end + 3) (omega arith) (omega arith) (omega arith) l) stops)
  group (suc (suc (suc (suc (suc n))))) e some few digits = absurd (omega arith)

  pub group_up_to : at < end → end - at ≤ 4 → AreDigitsIn (last_bytes (end - at))
      → IsGroupUpTo text at end (group_in (last_bytes (end - at)))
  group_up_to some few digits = record {
    begins = group (end - at) (omega arith) (omega arith) few digits;
    within = within;
    colon_or_end = there;
  }

-- ---- between groups

pub at_colon : {text : List ℕ} {at end group : ℕ} → IsGroupUpTo text at end group → end ≢ length text
    → drop end text ≡ colon ∷ drop (end + 1) text
at_colon {text} {at} {end} h more =
    let low : end < length text = omega (arith, h.within, more) in
    drop_more text end 0 low ∙ ap (λ b. b ∷ drop (end + 1) text) (h.colon_or_end low)

pub second_colon : (text : List ℕ) (at : ℕ) → at < length text → get_or text at 0 ≡ colon
    → drop at text ≡ colon ∷ drop (at + 1) text
second_colon text at low there = drop_more text at 0 low ∙ ap (λ b. b ∷ drop (at + 1) text) there

pub no_colon_at : (text : List ℕ) (at : ℕ) → (at < length text → get_or text at 0 ≢ colon) → (rest : List ℕ)
    → drop at text ≢ colon ∷ rest
no_colon_at text at other rest e = elim (cases_lt at (length text)) [
  | inl more ↦ other more (ap (λ t. get_or t 0 0) (sym (drop_more text at 0 more) ∙ e))
  | inr none ↦ let k = ap length (sym (drop_all at text none) ∙ e) in omega (arith, k)
]
