-- How a tally is written.
use Rattle.cidr_join.proofs.Words.{◌≡◌, ℕ, ◌+◌, ◌<◌, ◌≤◌, ◌||◌, Bool, List, [], ◌∷◌, ◌++◌, ◌∙◌, length, map, take, drop, take-append-drop, get_or, inl, inr, refl, sym, ap, subst, append_assoc, append-nil, Result, Ok, Err, OnOk, OnErr, is_err, Appends, take_all, take_more, map_push, Written, AppendsBeginning, Prints, Writes, FailsIn, begins_within, begins_after_puts, status_of, Row, row_text, rows_text, Finishes, failed_now, puts_then_all, true, false}

rows_both : (first second : List Row) → rows_text (first ++ second) ≡ rows_text first ++ rows_text second
rows_both [] second = refl
rows_both (row ∷ first) second = ap (λ t. row_text row ++ t) (rows_both first second) ∙ sym
    (append_assoc (row_text row) (rows_text first) (rows_text second))

-- the text of one more row
pub rows_push : (rows : List Row) (row : Row) → rows_text (rows ++ row ∷ []) ≡ rows_text rows ++ row_text row
rows_push rows row = rows_both rows (row ∷ []) ∙ ap (λ t. rows_text rows ++ t) (append-nil (row_text row))

-- the rows before an index, and the one at it
pub rows_more : {X : Type 0} (f : X → Row) (xs : List X) (i : ℕ) (x : X) → i < length xs → x ≡ get_or xs i x
    → rows_text (map f (take (i + 1) xs)) ≡ rows_text (map f (take i xs)) ++ row_text (f x)
rows_more f xs i x within is =
    ap (λ ys. rows_text (map f ys)) (take_more xs i x within ∙ ap (λ y. take i xs ++ y ∷ []) (sym is)) ∙ ap rows_text
    (map_push f (take i xs) x) ∙ rows_push (map f (take i xs)) (f x)

pub rows_all : {X : Type 0} (f : X → Row) (xs : List X) (i : ℕ) → length xs ≤ i
    → rows_text (map f (take i xs)) ≡ rows_text (map f xs)
rows_all f xs i past = ap (λ ys. rows_text (map f ys)) (take_all i xs past)

-- a writer that fails at a text before others
pub fails_before : {W : Type 0} (old mid new : Written W) (before text after all : List ℕ) → Prints old mid before
    → all ≡ (before ++ text) ++ after
    → AppendsBeginning mid.holds new.holds (mid.waits ++ text) → FailsIn old new all
fails_before old mid new before text after all p e h =
    subst (λ (t : List ℕ). AppendsBeginning old.holds new.holds (old.waits ++ t)) (sym e)
    (subst (λ (t : List ℕ). AppendsBeginning old.holds new.holds t) (append_assoc old.waits (before ++ text) after)
    (begins_within old.holds new.holds (old.waits ++ (before ++ text)) after
    (begins_after_puts old.holds mid.holds new.holds old.waits mid.waits before text p h)))

map_both : {X : Type 0} (f : X → Row) (xs ys : List X) → map f (xs ++ ys) ≡ map f xs ++ map f ys
map_both f [] ys = refl
map_both f (x ∷ xs) ys = ap (λ l. f x ∷ l) (map_both f xs ys)

-- the rows before an index, and those from it on
rows_apart : {X : Type 0} (f : X → Row) (xs : List X) (i : ℕ)
    → rows_text (map f xs) ≡ rows_text (map f (take i xs)) ++ rows_text (map f (drop i xs))
rows_apart f xs i = ap (λ ys. rows_text (map f ys)) (sym (take-append-drop i xs)) ∙ ap rows_text
    (map_both f (take i xs) (drop i xs)) ∙ rows_both (map f (take i xs)) (map f (drop i xs))

pub rows_at : {X : Type 0} (f : X → Row) (xs : List X) (i : ℕ) (x : X) → i < length xs → x ≡ get_or xs i x
    → rows_text (map f xs) ≡ (rows_text (map f (take i xs)) ++ row_text (f x)) ++ rows_text (map f (drop (i + 1) xs))
rows_at f xs i x within is = rows_apart f xs (i + 1) ∙ ap (λ t. t ++ rows_text (map f (drop (i + 1) xs)))
    (rows_more f xs i x within is)

-- what was put and then written
pub written_all : {W T E : Type 0} (result : Result T E) (old mid new : Written W) (text : List ℕ) → Prints old mid text
    → OnOk result (Appends mid.holds new.holds mid.waits)
    → OnOk result (Writes old new text)
written_all {W} (Ok done) old mid new text p h =
    subst (λ (t : List ℕ). Writes old new t) (append-nil text)
    (puts_then_all _ _ _ _ _ text [] p (subst (Appends mid.holds new.holds) (sym (append-nil mid.waits)) h))
written_all (Err fault) old mid new text p h = tt

pub failed_all : {W T E : Type 0} (result : Result T E) (old mid new : Written W) (text : List ℕ) → Prints old mid text
    → OnErr result (AppendsBeginning mid.holds new.holds mid.waits)
    → OnErr result (FailsIn old new text)
failed_all (Ok done) old mid new text p h = tt
failed_all (Err fault) old mid new text p h =
    subst (λ (t : List ℕ). FailsIn old new t) (append-nil text)
    (begins_after_puts _ _ _ _ _ text [] p
    (subst (AppendsBeginning mid.holds new.holds) (sym (append-nil mid.waits)) h))

-- what was written at the end
pub finishes : {W T F : Type 0} (written : Result T F) (old new : Written W) (text : List ℕ) (was : Bool)
    (status result : ℕ)
    → OnOk written (Writes old new text) → OnErr written (FailsIn old new text) → new.failed ≡ (was || is_err written)
    → result ≡ status_of written status → Finishes old new text status result
finishes (Ok done) old new text was status result ok err failed two = inl (ok, two)
finishes (Err fault) old new text was status result ok err failed two = inr (failed_now new.failed was failed, err, two)

-- ---- whether a device failed

pub none_or : (old new : Bool) → new ≡ (old || false) → new ≡ old
none_or true new e = e
none_or false new e = e

pub or_on : (old mid new by : Bool) → mid ≡ old → new ≡ (mid || by) → new ≡ (old || by)
or_on old mid new by e f = f ∙ ap (λ b. b || by) e
