-- The first occurrence of a text in a line, not inside a name.
use Rattle.line_addresses.proofs.Words.{◌≡◌, ℕ, zero, suc, ◌+◌, ◌-◌, ◌<◌, ◌≤◌, ◌==◌, ◌&&◌, Bool, true, false, cond, List, [], ◌∷◌, Option, length, take, drop, get_or, None, Some, refl, sym, ap, subst, ◌∙◌, arith, bytes_eq, ne_eqb, drop_all, drop_more, IsAbsent, IsNext, begins_name, following, following_from}

-- an empty text occurs at the beginning
pub nothing_first : (text line : List ℕ) → length text ≡ 0 → following text line ≡ Some line
nothing_first [] [] e = refl
nothing_first [] (byte ∷ line) e = refl
nothing_first (first ∷ text) line e = absurd (omega (arith, e))

-- what follows the text from an index on; the byte before the line counts as a space
abbrev pub from_at : List ℕ → List ℕ → ℕ → Option (List ℕ)
from_at text line at = following_from (get_or (32 ∷ line) at 0) text (drop at line)

none_in_nothing : (before : ℕ) (text : List ℕ) → 0 < length text → following_from before text [] ≡ None
none_in_nothing before text some =
    ap (λ b. cond b (Some []) None) (ne_eqb (length text) 0 (λ e. omega (arith, e, some)))

and_no : (a : Bool) → (a && false) ≡ false
and_no true = refl
and_no false = refl

-- whether the text begins here, and not inside a name
abbrev pub is_here : List ℕ → List ℕ → ℕ → Bool
is_here text line at =
    begins_name (get_or (32 ∷ line) at 0) (get_or line at 0) && bytes_eq (take (length text) (drop at line)) text

by_test : (before : ℕ) (text line : List ℕ) (byte : ℕ) (rest : List ℕ) → line ≡ byte ∷ rest
    → following_from before text line ≡ cond (begins_name before byte && bytes_eq (take (length text) line) text)
    (Some (drop (length text) line)) (following_from byte text rest)
by_test before text line byte rest e =
    ap (following_from before text) e
    ∙ sym (ap (λ (l : List ℕ). cond (begins_name before byte && bytes_eq (take (length text) l) text)
    (Some (drop (length text) l)) (following_from byte text rest)) e)

module _ (text line : List ℕ) (at : ℕ) (within : at < length line) where
  at_index : from_at text line at ≡ cond (is_here text line at) (Some (drop (length text) (drop at line)))
      (from_at text line (at + 1))
  at_index =
      let next : suc at ≡ at + 1 = omega arith in
      by_test (get_or (32 ∷ line) at 0) text (drop at line) (get_or line at 0) (drop (at + 1) line)
      (drop_more line at 0 within)
      ∙ ap (λ n. cond (is_here text line at) (Some (drop (length text) (drop at line)))
      (following_from (get_or (32 ∷ line) n 0) text (drop (at + 1) line))) next

  -- the text is here, or is not
  pub here : is_here text line at ≡ true → from_at text line at ≡ Some (drop (length text) (drop at line))
  here is = at_index
      ∙ ap (λ b. cond b (Some (drop (length text) (drop at line))) (from_at text line (at + 1))) is

  pub not_here : is_here text line at ≡ false → from_at text line at ≡ from_at text line (at + 1)
  not_here is = at_index
      ∙ ap (λ b. cond b (Some (drop (length text) (drop at line))) (from_at text line (at + 1))) is

-- a text does not begin with a byte other than its first
other_first : (text rest : List ℕ) (byte : ℕ) → 0 < length text → (byte == get_or text 0 0) ≡ false
    → bytes_eq (take (length text) (byte ∷ rest)) text ≡ false
other_first [] rest byte some other = absurd (omega (arith, some))
other_first (first ∷ text) rest byte some other = ap (λ v. v && bytes_eq (take (length text) rest) text) other

module _ (text line : List ℕ) (some : 0 < length text) where
  skip_byte : (at : ℕ) → at < length line → (get_or line at 0 == get_or text 0 0) ≡ false
      → from_at text line at ≡ from_at text line (at + 1)
  skip_byte at within other =
      let begins = begins_name (get_or (32 ∷ line) at 0) (get_or line at 0) in
      not_here text line at within
      (ap (λ (l : List ℕ). begins && bytes_eq (take (length text) l) text) (drop_more line at 0 within)
      ∙ ap (λ b. begins && b) (other_first text (drop (at + 1) line) (get_or line at 0) some other) ∙ and_no begins)

  skip_some : (count at position : ℕ) → at + count ≡ position → position ≤ length line → IsAbsent (get_or text 0 0) line
      at position → from_at text line at ≡ from_at text line position
  skip_some zero at position e within absent = let same : at ≡ position = omega (arith, e) in
      ap (λ n. from_at text line n) same
  skip_some (suc count) at position e within absent =
      skip_byte at (omega (arith, e, within)) (ne_eqb _ _ (absent at (omega arith) (omega (arith, e))))
      ∙ skip_some count (at + 1) position (omega (arith, e)) within (λ p low high. absent p (omega (arith, low)) high)

  -- the search continues at the next position of the text's first byte
  pub skip : (at position : ℕ) → IsNext (get_or text 0 0) line at position
      → from_at text line at ≡ from_at text line position
  skip at position next = skip_some (position - at) at position (omega (arith, next.behind))
      (omega (arith, next.within)) next.between

  pub nowhere : (at : ℕ) → at ≤ length line → IsAbsent (get_or text 0 0) line at (length line)
      → from_at text line at ≡ None
  nowhere at within absent =
      skip_some (length line - at) at (length line) (omega (arith, within)) (omega arith) absent
      ∙ ap (following_from (get_or (32 ∷ line) (length line) 0) text) (drop_all (length line) line (omega arith))
      ∙ none_in_nothing (get_or (32 ∷ line) (length line) 0) text some

-- at the next position of the text's first byte
module _ (text line : List ℕ) (some : 0 < length text) (at position : ℕ)
    (next : IsNext (get_or text 0 0) line at position) (same : following text line ≡ from_at text line at) where
  at_next : following text line ≡ from_at text line position
  at_next = same ∙ skip text line some at position next

  -- it begins inside a name
  pub inside_name : begins_name (get_or (32 ∷ line) position 0) (get_or line position 0) ≡ false
      → following text line ≡ from_at text line (position + 1)
  inside_name other = at_next ∙ not_here text line position next.within
      (ap (λ b. b && bytes_eq (take (length text) (drop position line)) text) other)

  module _ (part : List ℕ) (is : part ≡ drop position line) where
    pub found_at : (rest : List ℕ) → begins_name (get_or (32 ∷ line) position 0) (get_or line position 0) ≡ true
        → bytes_eq (take (length text) part) text ≡ true → rest ≡ drop (length text) part
        → following text line ≡ Some rest
    found_at rest begins equal behind =
        at_next ∙ here text line position next.within
        (ap (λ b. b && bytes_eq (take (length text) (drop position line)) text) begins
        ∙ subst (λ (p : List ℕ). bytes_eq (take (length text) p) text ≡ true) is equal)
        ∙ ap (λ (p : List ℕ). Some (drop (length text) p)) (sym is) ∙ ap Some (sym behind)

    pub not_at : bytes_eq (take (length text) part) text ≡ false
        → following text line ≡ from_at text line (position + 1)
    not_at other =
        let begins = begins_name (get_or (32 ∷ line) position 0) (get_or line position 0) in
        at_next ∙ not_here text line position next.within
        (ap (λ b. begins && b) (subst (λ (p : List ℕ). bytes_eq (take (length text) p) text ≡ false) is other)
        ∙ and_no begins)
