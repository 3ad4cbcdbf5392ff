-- An address with a `::`, by the number of groups that are written.
use Rattle.ipnetwork_addr.proofs.Words.{◌≡◌, ℕ, ◌+◌, ◌-◌, ◌^◌, ◌≤◌, List, [], ◌∷◌, ◌++◌, length, replicate, ap, ◌∙◌, arith, number_from_digits, colon, IsPlain, IsEnded, IsCompressed}

module _ (text : List ℕ) (address : ℕ) (h : IsCompressed text address) where
  pub room_of : length h.high + length h.low ≤ 7
  room_of = omega (arith, h.some_missing, h.eight)

  pub value_of : address ≡ number_from_digits (2 ^ 16)
      (h.high ++ replicate (8 - length h.high - length h.low) 0 ++ h.low)
  value_of =
      let e : h.missing ≡ 8 - length h.high - length h.low = omega (arith, h.eight) in
      h.value ∙ ap (λ n. number_from_digits (2 ^ 16) (h.high ++ replicate n 0 ++ h.low)) e

pub compressed : (text before behind high low : List ℕ) (address : ℕ) → text ≡ before ++ (colon ∷ colon ∷ []) ++ behind
    → IsPlain before high → IsEnded behind low → length high + length low ≤ 7
    → address ≡ number_from_digits (2 ^ 16) (high ++ replicate (8 - length high - length low) 0 ++ low)
    → IsCompressed text address
compressed text before behind high low address split plain ended room value = record {
  before = before;
  behind = behind;
  high = high;
  low = low;
  missing = 8 - length high - length low;
  split = split;
  high_groups = plain;
  low_groups = ended;
  some_missing = omega (arith, room);
  eight = omega (arith, room);
  value = value;
}
