-- Answers written row by row.
use Rattle.ipnetwork_c.proofs.Words.{◌≡◌, ◌≢◌, ℕ, zero, suc, ◌+◌, ◌<◌, ◌≤◌, List, [], ◌∷◌, ◌++◌, length, map, take, drop, get_or, slice_set, ⊎_elim, ap, refl, sym, subst, add-one, append_assoc, drop-cons, ◌∙◌, arith, take-suc, set-append_seam, cases_lt, get_or_default, map-append, length-map, length-set, length-take-le, slice_get-get_or, On, AnswersEach, AsksEach}
use Rattle.std.proofs.Common.{slice_get, Some}

-- the answers to the rows so far, followed by what was there, and then with the next answer
pub row_written : {A : Type 0} (f : A → ℕ) (rows : List A) (x : A) (before answers : List ℕ) (row value : ℕ)
    → row < length rows → length rows ≤ length before → x ≡ get_or rows row x → answers ≡ map f (take row rows) ++ drop
    row before → value ≡ f x → slice_set answers row value ≡ map f (take (row + 1) rows) ++ drop (row + 1) before
row_written f rows x before answers row value below room x_is is value_is =
    let front : List ℕ = map f (take row rows) in
    let behind : List ℕ = drop (row + 1) before in
    let size : length front ≡ row = length-map (take row rows) f ∙ length-take-le row rows (omega (arith, below)) in
    let next : take (row + 1) rows ≡ take row rows ++ x ∷ [] = ap (λ k. take k rows) (add-one row)
    ∙ take-suc rows row x below ∙ ap (λ y. take row rows ++ y ∷ []) (sym x_is) in
    let mapped : map f (take (row + 1) rows) ≡ front ++ f x ∷ [] = ap (map f) next
    ∙ map-append f (take row rows) (x ∷ []) in
    let rest : drop row before ≡ get_or before row 0 ∷ behind = drop-cons before row 0 (omega (arith, below, room))
    ∙ ap (λ k. get_or before row 0 ∷ drop k before) (sym (add-one row)) in
    ap (λ xs. slice_set xs row value) is
    ∙ ap (λ r. slice_set (front ++ r) row value) rest
    ∙ ap (λ k. slice_set (front ++ get_or before row 0 ∷ behind) k value) (sym size)
    ∙ set-append_seam front (get_or before row 0) behind value
    ∙ ap (λ v. front ++ v ∷ behind) value_is
    ∙ sym (append_assoc front (f x ∷ []) behind)
    ∙ ap (λ xs. xs ++ behind) (sym mapped)

-- ---- rows with their own faults

pub got_where_set : {X : Type 0} (xs : List X) (i : ℕ) (x : X) → i < length xs → slice_get (slice_set xs i x) i ≡ Some x
got_where_set [] i x below = absurd (omega (arith, below))
got_where_set (y ∷ xs) zero x below = refl
got_where_set (y ∷ xs) (suc i) x below = got_where_set xs i x (omega (arith, below))

pub got_elsewhere : {X : Type 0} (xs : List X) (i j : ℕ) (x : X) → j ≢ i
    → slice_get (slice_set xs i x) j ≡ slice_get xs j
got_elsewhere [] i j x apart = refl
got_elsewhere (y ∷ xs) zero zero x apart = absurd (apart refl)
got_elsewhere (y ∷ xs) zero (suc j) x apart = refl
got_elsewhere (y ∷ xs) (suc i) zero x apart = refl
got_elsewhere (y ∷ xs) (suc i) (suc j) x apart = got_elsewhere xs i j x (λ e. apart (ap suc e))

-- one more row is answered
pub one_row_more : {R : Type 0} (Answers : ℕ → R → R → ℕ → Type 0) (n : ℕ) (before after : List R)
    (faults_before faults : List ℕ) (d new : R) (fault : ℕ) → AnswersEach Answers n before after faults_before faults
    → n < length before → n < length faults_before → Answers n (get_or after n d) new fault
    → AnswersEach Answers (n + 1) before (slice_set after n new) faults_before (slice_set faults n fault)
one_row_more {R} Answers n before after faults_before faults d new fault so_far room fault_room answered =
    let old : R = get_or after n d in
    let within : n < length after = omega (arith, room, so_far.rows) in
    let fault_within : n < length faults = omega (arith, fault_room, so_far.fault_rows) in
    let was : slice_get before n ≡ Some old = sym (so_far.rest n (omega arith)) ∙ slice_get-get_or after n d within in
    record {
      rows = length-set after n new ∙ so_far.rows;
      fault_rows = length-set faults n fault ∙ so_far.fault_rows;
      row = λ i below. ⊎_elim
          (λ (less : i < n).
          let apart : i ≢ n = λ e. omega (arith, e, less) in
          let r = so_far.row i less in (
            r.0,
            r.1,
            r.2,
            r.3,
            got_elsewhere after n i new apart ∙ r.4,
            got_elsewhere faults n i fault apart
                ∙ r.5,
            r.6,
          ))
          (λ (more : n ≤ i).
          let here : n ≡ i = omega (arith, below, more) in
          subst (λ (k : ℕ). (o w : R) × (f : ℕ) × (slice_get before k ≡ Some o) × (slice_get (slice_set after n new)
          k ≡ Some w) × (slice_get (slice_set faults n fault) k ≡ Some f) × Answers k o w f) here
          (old, new, fault, was, got_where_set after n new within, got_where_set faults n fault fault_within, answered))
          (cases_lt i n);
      rest = λ i behind. let apart : i ≢ n = λ e. omega (arith, e, behind) in got_elsewhere after n i new apart
          ∙ so_far.rest i (omega (arith, behind));
      fault_rest = λ i behind. let apart : i ≢ n = λ e. omega (arith, e, behind) in got_elsewhere faults n i fault apart
          ∙ so_far.fault_rest i (omega (arith, behind));
    }

-- the same for a row whose item was read
pub item_row_more : {A : Type 0} (Asks : A → ℕ → ℕ → ℕ → Type 0) (items : List A) (none item : A) (n : ℕ)
    (before after faults_before faults : List ℕ) (new fault : ℕ) → AnswersEach (λ i. Asks (get_or items i none)) n
    before after faults_before faults → n < length items → n < length before → n < length faults_before
    → item ≡ get_or items n item → Asks item (get_or after n 0) new fault → AnswersEach (λ i.
    Asks (get_or items i none)) (n + 1) before (slice_set after n new) faults_before (slice_set faults n fault)
item_row_more {A} Asks items none item n before after faults_before faults new fault so_far within room fault_room
    is answered =
    one_row_more (λ i. Asks (get_or items i none)) n before after faults_before faults 0 new fault so_far
    room fault_room
    (subst (λ (a : A). Asks a (get_or after n 0) new fault) (is ∙ get_or_default items n item none within) answered)

pub each_row_answered : {A : Type 0} (Asks : A → ℕ → ℕ → ℕ → Type 0) (items : List A) (none : A) (n : ℕ)
    (before after faults_before faults : List ℕ) → AnswersEach (λ i. Asks (get_or items i none)) n before after
    faults_before faults → n ≡ length items → length items ≤ length before → length items ≤ length faults_before
    → AsksEach none Asks items (before, faults_before) (after, faults) 0
each_row_answered Asks items none n before after faults_before faults so_far all room fault_room =
    On (
      (room, fault_room),
      (
        refl,
        subst (λ (k : ℕ). AnswersEach (λ i. Asks (get_or items i none)) k before after faults_before faults)
            all so_far,
      ),
    )
