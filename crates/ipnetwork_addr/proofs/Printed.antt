-- The printer writes the canonical text.
use Rattle.ipnetwork_addr.proofs.Words.{◌≡◌, ◌↔◌, Bool, false, true≢false, IsTrue, sym, ℕ, ◌+◌, ◌%◌, ◌^◌, ◌<◌, ◌≤◌, List, [], ◌∷◌, ◌++◌, take, drop, ◌∙◌, subst, arith, colon, segments_of, canonical_v4, IsMapped, IsGap, IsCanonicalV6, Mapped, Whole, hex_groups, IsLongestRun}
use Rattle.std.proofs.Common.{codes}
use Rattle.ipnetwork_addr.specs.Ipv6Canonical.{Gap}

pub not_from_test : (b : Bool) (p : Type 0) → (IsTrue b ↔ p) → b ≡ false → ¬ p
not_from_test b p h e x = true≢false (sym (h.1 x) ∙ e)

-- a longest run of several groups is the run that is printed as `::`
is_gap : (groups : List ℕ) (i n : ℕ) → IsLongestRun groups i n → 2 ≤ n → IsGap groups i n
is_gap groups i n run several = record {
  several = several;
  zeros = run.zeros;
  longest = run.longest;
  leftmost = λ j zeros. run.leftmost j (omega (arith, several)) zeros;
}

pub printed_mapped : (address : ℕ) (text front shown all : List ℕ) (last : ℕ) → IsMapped address → text ≡ []
    → front ≡ text ++ codes "::ffff:"
    → shown ≡ canonical_v4 last → last ≡ address % 2 ^ 32 → all ≡ front ++ shown → IsCanonicalV6 all address
printed_mapped address text front shown all last mapped empty k is_shown is_last l =
    Mapped mapped (l ∙ rw (k, empty, is_shown, is_last))

module _ (address : ℕ) (groups : List ℕ) (e : groups ≡ segments_of address) (not_mapped : ¬ (IsMapped address))
    (run : ℕ × ℕ) (found : IsLongestRun groups run.0 run.1) where
  pub printed_gap : (text front colons all back : List ℕ) → 2 ≤ run.1 → text ≡ []
      → front ≡ text ++ hex_groups (take run.0 groups) → colons ≡ front ++ colon ∷ colon ∷ []
      → back ≡ drop (run.0 + run.1) groups → all ≡ colons ++ hex_groups back → IsCanonicalV6 all address
  printed_gap text front colons all back several empty h k is_back l =
      let spelled : all ≡ hex_groups (take run.0 groups) ++ (colon ∷ colon ∷ [])
      ++ hex_groups (drop (run.0 + run.1) groups) = l ∙ rw (k, h, empty, is_back) in
      let gap : IsGap groups run.0 run.1 = is_gap groups run.0 run.1 found several in
      Gap not_mapped run.0 run.1 (subst (λ gs. IsGap gs run.0 run.1) e gap)
      (subst (λ gs. all ≡ hex_groups (take run.0 gs) ++ (colon ∷ colon ∷ []) ++ hex_groups (drop (run.0 + run.1) gs)) e
      spelled)

  pub printed_whole : (text all : List ℕ) → run.1 < 2 → text ≡ [] → all ≡ text ++ hex_groups groups
      → IsCanonicalV6 all address
  printed_whole text all few empty h =
      let none : (i n : ℕ) → ¬ (IsGap groups i n) =
      λ i n gap. omega (arith, found.longest i n gap.zeros, gap.several, few) in
      Whole not_mapped (subst (λ gs. (i n : ℕ) → ¬ (IsGap gs i n)) e none)
      (subst (λ gs. all ≡ hex_groups gs) e (h ∙ rw empty))
