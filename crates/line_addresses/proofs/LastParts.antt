-- The parts of a line, from its end on.
use Rattle.line_addresses.proofs.Words.{◌≡◌, ℕ, suc, ◌+◌, ◌-◌, ◌<◌, ◌≤◌, ◌==◌, ◌∙◌, List, [], ◌∷◌, ◌++◌, Bool, true, false, cond, refl, sym, ap, arith, length, length-take, take, drop, Option, Some, None, reverse, reverse-append, filter_map, filter_map-append, slice_get, slice_index, slice_range, slice_split, onto_first, length-slice_split, slice_split-cons_yes, slice_split_none, All, All-from_get_or, get_or-take, get_or-drop, ne_eqb, drop-take, drop_more, take-take, take-append-drop, fields_of, is_blank, unless_empty, words_of, cuts, is_skipped, parts_of}

onto_end : (byte : ℕ) (part : List ℕ) (parts all : List (List ℕ)) (b : Bool) → 0 < length parts
    → all ≡ parts ++ part ∷ []
    → cond b ([] ∷ all) (onto_first byte all) ≡ cond b ([] ∷ parts) (onto_first byte parts) ++ part ∷ []
onto_end byte part [] all b some is = absurd (omega (arith, some))
onto_end byte part (first ∷ parts) all true some is = ap (λ l. [] ∷ l) is
onto_end byte part (first ∷ parts) all false some is = ap (onto_first byte) is

split_last : (test : ℕ → Bool) (line : List ℕ) (cut : ℕ) (part : List ℕ) → test cut ≡ true
    → All (λ b. test b ≡ false) part → slice_split test (line ++ cut ∷ part) ≡ slice_split test line ++ part ∷ []
split_last test [] cut part is whole =
    slice_split-cons_yes test cut part is ∙ ap (λ l. [] ∷ l) (slice_split_none test part whole)
split_last test (byte ∷ line) cut part is whole =
    onto_end byte part (slice_split test line) (slice_split test (line ++ cut ∷ part)) (test byte)
    (omega (arith, length-slice_split test line)) (split_last test line cut part is whole)

-- a part, unless it is skipped
abbrev pub kept : Bool → List ℕ → List (List ℕ)
kept true part = []
kept false part = part ∷ []

kept_word : (part : List ℕ) → reverse (filter_map unless_empty (part ∷ [])) ≡ kept (length part == 0) part
kept_word [] = refl
kept_word (byte ∷ part) = sym (ap (λ skips. kept skips (byte ∷ part)) (ne_eqb (suc (length part)) 0 (λ e. omega (
  arith,
  e,
))))

last_part : (separator : Option ℕ) (line part : List ℕ) (cut : ℕ) → cuts separator cut ≡ true
    → All (λ b. cuts separator b ≡ false) part → reverse (parts_of separator (line ++ cut ∷ part))
    ≡ kept (is_skipped separator part) part ++ reverse (parts_of separator line)
last_part (Some one) line part cut is whole =
    ap reverse (split_last (cuts (Some one)) line cut part is whole) ∙ reverse-append (fields_of one line) (part ∷ [])
last_part None line part cut is whole =
    ap (λ l. reverse (filter_map unless_empty l)) (split_last is_blank line cut part is whole)
    ∙ ap reverse (filter_map-append unless_empty (slice_split is_blank line) (part ∷ []))
    ∙ reverse-append (words_of line) (filter_map unless_empty (part ∷ []))
    ∙ ap (λ l. l ++ reverse (words_of line)) (kept_word part)

uncut_part : (test : ℕ → Bool) (line : List ℕ) (start end : ℕ) → end ≤ length line → ((position : ℕ)
    → start ≤ position → position < end → test (slice_index line position) ≡ false)
    → All (λ b. test b ≡ false) (slice_range line start end)
uncut_part test line start end within uncut =
    All-from_get_or (λ b. test b ≡ false) (slice_range line start end) 0 (λ i below.
    let left : i < end - start = omega (arith, length-take (end - start) (drop start line)) in
    rw (get_or-take (end - start) (drop start line) i 0 left, get_or-drop start line i 0)
    (uncut (start + i) (omega arith) (omega arith)))

-- the bytes before an index: those before a byte, that byte, and the part after it
cut_apart : (line : List ℕ) (at end : ℕ) → at < end → end ≤ length line
    → take end line ≡ take at line ++ slice_index line at ∷ slice_range line (at + 1) end
cut_apart line at end before within =
    let here : end ≡ at + (end - at) = omega (arith, before) in
    let behind : end - at ≡ suc (end - (at + 1)) = omega (arith, before) in
    let below : at < length line = omega (arith, before, within) in
    let rest : drop at (take end line) ≡ slice_index line at ∷ slice_range line (at + 1) end =
    ap (λ n. drop at (take n line)) here ∙ drop-take at (end - at) line
    ∙ ap (take (end - at)) (drop_more line at 0 below)
    ∙ ap (λ n. take n (slice_index line at ∷ drop (at + 1) line)) behind in
    sym (take-append-drop at (take end line))
    ∙ ap (λ t. t ++ drop at (take end line)) (take-take at end line (omega (arith, before)))
    ∙ ap (λ t. take at line ++ t) rest

-- the last part of the bytes before `end`, if the byte before it divides parts, and none in it does
pub parts_before : (separator : Option ℕ) (line : List ℕ) (at end : ℕ) → 0 < at → at ≤ end → end ≤ length line
    → cuts separator (slice_index line (at - 1)) ≡ true → ((position : ℕ) → at ≤ position → position < end
    → cuts separator (slice_index line position) ≡ false) → reverse (parts_of separator (take end line))
    ≡ kept (is_skipped separator (slice_range line (at - 1 + 1) end)) (slice_range line (at - 1 + 1) end)
    ++ reverse (parts_of separator (take (at - 1) line))
parts_before separator line at end some ordered within is uncut =
    ap (λ t. reverse (parts_of separator t)) (cut_apart line (at - 1) end (omega (arith, some, ordered)) within)
    ∙ last_part separator (take (at - 1) line) (slice_range line (at - 1 + 1) end) (slice_index line (at - 1)) is
    (uncut_part (cuts separator) line (at - 1 + 1) end within (λ position behind below.
    uncut position (omega (arith, behind, some)) below))

-- the only part, if no byte cuts
only_part : (separator : Option ℕ) (part : List ℕ) → All (λ b. cuts separator b ≡ false) part
    → reverse (parts_of separator part) ≡ kept (is_skipped separator part) part
only_part (Some one) part whole = ap reverse (slice_split_none (cuts (Some one)) part whole)
only_part None part whole =
    ap (λ l. reverse (filter_map unless_empty l)) (slice_split_none is_blank part whole) ∙ kept_word part

pub first_part : (separator : Option ℕ) (line : List ℕ) (at end : ℕ) → at ≤ 0 → ((position : ℕ) → at ≤ position
    → position < end → cuts separator (slice_index line position) ≡ false)
    → is_skipped separator (take end line) ≡ false → reverse (parts_of separator (take end line)) ≡ take end line ∷ []
first_part separator line at end none uncut counts =
    only_part separator (take end line) (All-from_get_or (λ b. cuts separator b ≡ false) (take end line) 0 (λ i below.
    let left : i < end = omega (arith, below, length-take end line) in
    rw (get_or-take end line i 0 left) (uncut i (omega (arith, none)) left)))
    ∙ ap (λ skips. kept skips (take end line)) counts

pub part_skipped : (more : ℕ) (skips : Bool) (part : List ℕ) (rest all : List (List ℕ)) → all ≡ kept skips part ++ rest
    → skips ≡ true → slice_get all more ≡ slice_get rest more
part_skipped more skips part rest all is e = ap (λ l. slice_get l more) (is ∙ ap (λ s. kept s part ++ rest) e)

pub part_counts : (skips : Bool) (part : List ℕ) (rest all : List (List ℕ)) → all ≡ kept skips part ++ rest
    → skips ≡ false → all ≡ part ∷ rest
part_counts skips part rest all is e = is ∙ ap (λ s. kept s part ++ rest) e
