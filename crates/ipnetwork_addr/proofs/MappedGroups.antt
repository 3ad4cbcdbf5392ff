-- The groups of an IPv4-mapped address.
use Rattle.ipnetwork_addr.proofs.Words.{◌≡◌, ◌≢◌, ◌↔◌, ◌==◌, false, IsTrue, true≢false, ℕ, ◌+◌, ◌*◌, ◌/◌, ◌^◌, ◌<◌, List, [], ◌∷◌, get_or, ap, sym, arith, eqb-true, eq-eqb, number_more, take_all, IsMapped, number_of_segments, AreSegments}

-- the number of the groups, from the high half, the next two groups and the last two
in_parts : (xs : List ℕ) (high : ℕ) → AreSegments xs
    → high ≡ number_of_segments (get_or xs 0 0 ∷ get_or xs 1 0 ∷ get_or xs 2 0 ∷ get_or xs 3 0 ∷ [])
    → number_of_segments xs ≡ high * 2 ^ 64 + (get_or xs 4 0 * 65536 + get_or xs 5 0) * 2 ^ 32
    + (get_or xs 6 0 * 65536 + get_or xs 7 0)
in_parts xs high h is =
    let more = λ (i : ℕ) (within : i < 8). number_more 65536 xs i (omega (arith, h.eight, within)) in
    omega (
      arith,
      is,
      more 0 (omega arith),
      more 1 (omega arith),
      more 2 (omega arith),
      more 3 (omega arith),
      more 4 (omega arith),
      more 5 (omega arith),
      more 6 (omega arith),
      more 7 (omega arith),
      ap number_of_segments (take_all 8 xs (omega (arith, h.eight))),
    )

-- the number of all groups but the last two
front : (xs : List ℕ) (high : ℕ) → AreSegments xs
    → high ≡ number_of_segments (get_or xs 0 0 ∷ get_or xs 1 0 ∷ get_or xs 2 0 ∷ get_or xs 3 0 ∷ [])
    → number_of_segments xs / 2 ^ 32 ≡ high * 2 ^ 32 + (get_or xs 4 0 * 65536 + get_or xs 5 0)
front xs high h is = omega (arith, in_parts xs high h is, h.each 6, h.each 7)

pub other_front : (xs : List ℕ) (high : ℕ) → AreSegments xs
    → high ≡ number_of_segments (get_or xs 0 0 ∷ get_or xs 1 0 ∷ get_or xs 2 0 ∷ get_or xs 3 0 ∷ []) → high ≢ 0
    → IsTrue false ↔ IsMapped (number_of_segments xs)
other_front xs high h is some = (
  λ t. absurd (true≢false (sym t)),
  λ mapped. absurd (some (omega (arith, mapped, front xs high h is))),
)

pub mapped_groups : (xs : List ℕ) (high fifth sixth : ℕ) → AreSegments xs
    → high ≡ number_of_segments (get_or xs 0 0 ∷ get_or xs 1 0 ∷ get_or xs 2 0 ∷ get_or xs 3 0 ∷ []) → high ≡ 0
    → fifth ≡ get_or xs 4 0 → sixth ≡ get_or xs 5 0 → IsTrue (fifth * 65536 + sixth == 65535)
    ↔ IsMapped (number_of_segments xs)
mapped_groups xs high fifth sixth h is none e f = (
  λ t. omega (arith, eqb-true (fifth * 65536 + sixth) 65535 t, front xs high h is, none, e, f),
  λ mapped. eq-eqb (fifth * 65536 + sixth) 65535 (omega (arith, mapped, front xs high h is, none, e, f)),
)
