-- A line that is split at the bytes that pass a test, and what is kept of its parts.
use Rattle.line_addresses.proofs.Words.{◌≡◌, ℕ, ◌+◌, ◌-◌, ◌<◌, ◌≤◌, Bool, true, false, List, [], ◌∷◌, ◌++◌, length, drop, get_or, Option, None, refl, sym, ap, ◌∙◌, subst, arith, inl, inr, length-take, filter_map, flat_map, slice_index, All, cons_option, slice_range, slice_split, cases_lt, append-nil, drop_all, drop_more, get_or-drop, get_or-take, flat_map-cons, All-from_get_or, drop_split, slice_split-cons_yes, slice_split_at, slice_split_none, IsPartEnd}

-- the text is empty, or its first byte passes the test
abbrev pub BeginsWithCut : (ℕ → Bool) → List ℕ → Type 0
BeginsWithCut cuts [] = Unit {0}
BeginsWithCut cuts (byte ∷ bytes) = cuts byte ≡ true

-- the rest of a line after a part is empty, or begins with a byte that passes the test
pub begins : (cuts : ℕ → Bool) (line : List ℕ) (start end : ℕ) → IsPartEnd cuts line start end
    → BeginsWithCut cuts (drop end line)
begins cuts line start end h = elim (cases_lt end (length line)) [
  | inl below ↦ subst (BeginsWithCut cuts) (sym (drop_more line end 0 below)) (h.stops below)
  | inr past ↦ subst (BeginsWithCut cuts) (sym (drop_all end line past)) tt
]

-- no byte of the part passes the test
pub inside : (cuts : ℕ → Bool) (line : List ℕ) (start end : ℕ) → IsPartEnd cuts line start end
    → All (λ x. cuts x ≡ false) (slice_range line start end)
inside cuts line start end h = All-from_get_or (λ x. cuts x ≡ false) (slice_range line start end) 0 (λ i below.
    let left : i < end - start = omega (arith, length-take (end - start) (drop start line)) in
    rw (get_or-take (end - start) (drop start line) i 0 left, get_or-drop start line i 0)
    (h.before (start + i) (omega arith) (omega arith)))

-- `all` gathers a result from the parts of a line, part by part; an empty part adds nothing
pub record Gathers {R : Type 0} (all : List (List ℕ) → R) (join : List ℕ → R → R) : Type 0 where
  pub step : (part : List ℕ) (parts : List (List ℕ)) → all (part ∷ parts) ≡ join part (all parts)
  pub skip : (others : R) → join [] others ≡ others

pub filters : {X : Type 0} (keep : List ℕ → Option X) → keep [] ≡ None
    → Gathers (filter_map keep) (λ part others. cons_option (keep part) others)
filters keep empty = record { step = λ part parts. refl; skip = λ others. ap (λ o. cons_option o others) empty }

pub flattens : {X : Type 0} (each : List ℕ → List X) → each [] ≡ []
    → Gathers (flat_map each) (λ part others. each part ++ others)
flattens each empty =
    record { step = λ part parts. flat_map-cons each part parts; skip = λ others. ap (λ l. l ++ others) empty }

module _ {R : Type 0} {all : List (List ℕ) → R} {join : List ℕ → R → R} (gathers : Gathers all join) (cuts : ℕ
    → Bool) where
  -- an empty line adds nothing
  pub of_nothing : all (slice_split cuts []) ≡ all []
  of_nothing = gathers.step [] [] ∙ gathers.skip (all [])

  -- a byte that passes the test adds nothing at the start of a line
  pub behind_cut : (byte : ℕ) (bytes : List ℕ) → cuts byte ≡ true
      → all (slice_split cuts (byte ∷ bytes)) ≡ all (slice_split cuts bytes)
  behind_cut byte bytes is =
      ap all (slice_split-cons_yes cuts byte bytes is) ∙ gathers.step [] (slice_split cuts bytes)
      ∙ gathers.skip (all (slice_split cuts bytes))

  -- a part, and what follows it
  pub part_first : (part rest : List ℕ) → All (λ x. cuts x ≡ false) part → BeginsWithCut cuts rest
      → all (slice_split cuts (part ++ rest)) ≡ join part (all (slice_split cuts rest))
  part_first part [] whole end =
      ap (λ t. all (slice_split cuts t)) (append-nil part) ∙ ap all (slice_split_none cuts part whole)
      ∙ gathers.step part [] ∙ ap (join part) (sym of_nothing)
  part_first part (byte ∷ bytes) whole end =
      ap all (slice_split_at cuts part byte bytes whole end) ∙ gathers.step part (slice_split cuts bytes)
      ∙ ap (join part) (sym (behind_cut byte bytes end))

  pub part_at : (line : List ℕ) (start end : ℕ) → IsPartEnd cuts line start end → all
      (slice_split cuts (drop start line)) ≡ join (slice_range line start end) (all (slice_split cuts (drop end line)))
  part_at line start end h =
      ap (λ t. all (slice_split cuts t)) (drop_split line start end h.behind)
      ∙ part_first (slice_range line start end) (drop end line) (inside cuts line start end h)
      (begins cuts line start end h)

  -- a byte that passes the test
  pub cut_at : (line : List ℕ) (at : ℕ) → at < length line → cuts (slice_index line at) ≡ true
      → all (slice_split cuts (drop at line)) ≡ all (slice_split cuts (drop (at + 1) line))
  cut_at line at below is = ap (λ t. all (slice_split cuts t)) (drop_more line at 0 below)
      ∙ behind_cut (get_or line at 0) (drop (at + 1) line) is

  pub at_end : (line : List ℕ) (at : ℕ) → length line ≤ at → all (slice_split cuts (drop at line)) ≡ all []
  at_end line at past = ap (λ t. all (slice_split cuts t)) (drop_all at line past) ∙ of_nothing
