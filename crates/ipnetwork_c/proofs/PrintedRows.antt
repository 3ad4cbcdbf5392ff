-- Texts printed one after the other, with their offsets.
use Rattle.ipnetwork_c.proofs.Words.{◌≡◌, ◌≢◌, ℕ, ◌+◌, ◌-◌, ◌<◌, ◌≤◌, List, [], ◌∷◌, ◌++◌, length, take, drop, get_or, slice_set, ⊎_elim, refl, sym, ap, subst, ◌∙◌, arith, flat_map, take-append_seam, drop-append-add, cases_lt, length-append, length-set, append-nil, take-append-le, take_all, take_more, length-take-le, drop-drop, flat_map-append, length-flat_map-take, PrintsRows}
use Rattle.std.proofs.lemmas.List.{get_or-set_same, get_or-set_other}
use Rattle.ipnetwork_c.proofs.Rows.{got_elsewhere}

-- no row is printed, and the first offset is 0
pub none_printed : {R : Type 0} (text : R → List ℕ) (before offsets : List ℕ) → 0 < length offsets
    → PrintsRows text [] before before offsets (slice_set offsets 0 0)
none_printed text before offsets some = record {
  texts = refl;
  slots = length-set offsets 0 0;
  offset = λ i le. let none : i ≡ 0 = omega (arith, le) in ap (λ k. get_or (slice_set offsets 0 0) k 0) none
      ∙ get_or-set_same offsets 0 0 0 some ∙ ap (λ k. length (flat_map text (take k []))) (sym none);
  rest = λ i behind. got_elsewhere offsets 0 i 0 (λ e. omega (arith, e, behind));
}

one_more : {R : Type 0} (text : R → List ℕ) (rows : List R) (r : R)
    → flat_map text (rows ++ r ∷ []) ≡ flat_map text rows ++ text r
one_more text rows r = flat_map-append text rows (r ∷ []) ∙ ap (λ t. flat_map text rows ++ t) (append-nil (text r))

-- one more row is printed
pub one_printed : {R : Type 0} (text : R → List ℕ) (rows : List R) (r : R) (before after offsets_before offsets : List
    ℕ) (at end : ℕ) → PrintsRows text rows before after offsets_before offsets
    → at ≡ length (flat_map text rows) → end ≡ at + length (text r) → length rows + 1 < length offsets_before
    → PrintsRows text (rows ++ r ∷ []) before (take at after ++ text r ++ drop end after) offsets_before
    (slice_set offsets (length rows + 1) end)
one_printed {R} text rows r before after offsets_before offsets at end h at_is end_is room =
    let front : List ℕ = flat_map text rows in
    let whole : flat_map text (rows ++ r ∷ []) ≡ front ++ text r = one_more text rows r in
    let size : length (rows ++ r ∷ []) ≡ length rows + 1 = length-append rows (r ∷ []) in
    let wide : length (front ++ text r) ≡ length front + length (text r) = length-append front (text r) in
    let ends : end ≡ length (flat_map text (rows ++ r ∷ [])) = end_is ∙ ap (λ k. k + length (text r)) at_is ∙ sym wide
    ∙ ap length (sym whole) in
    let slots = h.slots in
    let kept : take at after ≡ front = ap (λ k. take k after) at_is ∙ ap (take (length front)) h.texts
    ∙ take-append_seam front (drop (length front) before) in
    let rest : drop end after ≡ drop (length (flat_map text (rows ++ r ∷ []))) before =
    ap (λ k. drop k after) (end_is ∙ ap (λ k. k + length (text r)) at_is)
    ∙ ap (drop (length front + length (text r))) h.texts
    ∙ drop-append-add front (drop (length front) before) (length (text r))
    ∙ drop-drop (length (text r)) (length front) before
    ∙ ap (λ k. drop k before) (sym wide ∙ ap length (sym whole)) in
    record {
      texts = ap (λ f. f ++ text r ++ drop end after) kept
          ∙ ap (λ t. front ++ text r ++ t) rest
          ∙ ap (λ f. f ++ drop (length (flat_map text (rows ++ r ∷ []))) before) (sym whole);
      slots = length-set offsets (length rows + 1) end ∙ slots;
      offset = λ i le. ⊎_elim
          (λ (less : i < length rows + 1).
          let apart : i ≢ length rows + 1 = λ e. omega (arith, e, less) in
          get_or-set_other offsets (length rows + 1) i end 0 apart
          ∙ h.offset i (omega (arith, less))
          ∙ ap (λ t. length (flat_map text t)) (sym (take-append-le i rows (r ∷ []) (omega (arith, less)))))
          (λ (more : length rows + 1 ≤ i).
          let here : i ≡ length rows + 1 = omega (arith, le, more, size) in
          ap (λ k. get_or (slice_set offsets (length rows + 1) end) k 0) here
          ∙ get_or-set_same offsets (length rows + 1) end 0 (omega (arith, slots, room))
          ∙ ends
          ∙ ap (λ t. length (flat_map text t)) (sym (take_all i (rows ++ r ∷ []) (omega (arith, size, more)))))
          (cases_lt i (length rows + 1));
      rest = λ i behind.
          let apart : i ≢ length rows + 1 = λ e. omega (arith, e, behind, size) in
          got_elsewhere offsets (length rows + 1) i end apart ∙ h.rest i (omega (arith, behind, size));
    }

-- ---- a row of the whole list, when a loop reaches it

pub within_whole : {R : Type 0} (text : R → List ℕ) (rows : List R) (i : ℕ) (r : R) (t : List ℕ) (at : ℕ)
    → i < length rows → r ≡ get_or rows i r → t ≡ text r → at ≡ length (flat_map text (take i rows))
    → at + length t ≤ length (flat_map text rows)
within_whole text rows i r t at below is text_is at_is =
    let most = length-flat_map-take text rows i r below in
    let size : length t ≡ length (text (get_or rows i r)) = ap length text_is ∙ ap (λ x. length (text x)) is in
    omega (arith, most, size, at_is)

pub row_printed : {R : Type 0} (text : R → List ℕ) (rows : List R) (i : ℕ) (r : R) (t : List ℕ) (before after next
    offsets_before offsets : List ℕ) (at end : ℕ) → i < length rows → r ≡ get_or rows i r → t ≡ text r
    → at ≡ length (flat_map text (take i rows)) → end ≡ at + length t
    → next ≡ take at after ++ t ++ drop (at + length t) after → length rows < length offsets_before
    → PrintsRows text (take i rows) before after offsets_before offsets
    → PrintsRows text (take (i + 1) rows) before next offsets_before (slice_set offsets (i + 1) end)
row_printed {R} text rows i r t before after next offsets_before offsets at end below is text_is at_is end_is
    next_is room h =
    let size : length (take i rows) ≡ i = length-take-le i rows (omega (arith, below)) in
    let more : take (i + 1) rows ≡ take i rows ++ r ∷ [] = take_more rows i r below
    ∙ ap (λ x. take i rows ++ x ∷ []) (sym is) in
    let put : next ≡ take at after ++ text r ++ drop end after = next_is ∙ ap (λ k. take at after ++ t ++ drop k after)
    (sym end_is) ∙ ap (λ x. take at after ++ x ++ drop end after) text_is in
    let one = one_printed text (take i rows) r before after offsets_before offsets at end h at_is
    (end_is ∙ ap (λ x. at + length x) text_is) (omega (arith, size, below, room)) in
    subst (λ (rs : List R). PrintsRows text rs before next offsets_before (slice_set offsets (i + 1) end)) (sym more)
    (subst (λ (n : List ℕ). PrintsRows text (take i rows ++ r ∷ []) before n offsets_before
    (slice_set offsets (i + 1) end)) (sym put)
    (subst (λ (k : ℕ). PrintsRows text (take i rows ++ r ∷ []) before (take at after ++ text r ++ drop end after)
    offsets_before (slice_set offsets (k + 1) end)) size one))

pub end_goes_on : {R : Type 0} (text : R → List ℕ) (rows : List R) (i : ℕ) (r : R) (t : List ℕ) (at end : ℕ)
    → i < length rows → r ≡ get_or rows i r → t ≡ text r
    → at ≡ length (flat_map text (take i rows)) → end ≡ at + length t → end ≡ length (flat_map text (take (i + 1) rows))
end_goes_on text rows i r t at end below is text_is at_is end_is =
    let more : take (i + 1) rows ≡ take i rows ++ r ∷ [] = take_more rows i r below
    ∙ ap (λ x. take i rows ++ x ∷ []) (sym is) in
    end_is ∙ ap (λ k. k + length t) at_is ∙ ap (λ x. length (flat_map text (take i rows)) + length x) text_is
    ∙ sym (length-append (flat_map text (take i rows)) (text r)) ∙ ap length (sym (one_more text (take i rows) r))
    ∙ ap (λ rs. length (flat_map text rs)) (sym more)

-- ---- rows that are refused

-- the row at i fits
abbrev pub FitsAt : {R : Type 0} → (R → Type 0) → List R → ℕ → Type 0
FitsAt {R} Fits rows i = (d : R) → Fits (get_or rows i d)
