-- The lines of an input, piece by piece.
use Rattle.lines.proofs.Words.{if◌then◌else◌, ◌≡◌, ℕ, ◌⊎◌, inl, inr, true, false, List, [], ◌∷◌, ◌++◌, length, take, ◌==◌, cond, refl, sym, ap, ap₂, ◌∙◌, arith, append_assoc, append-nil, length-append, eqb_tells, or-true, eqb-suc-zero, take-append_seam, list_any, slice_split, lines, lines_of_parts, strip_carriage_return, complete_part, IsBeginning}
use Rattle.lines.proofs.BytesLemmas.{HasNo, HasNo-push, split_at, split_none, split_cons}

-- `pending` is what was read after the last line feed.
unfoldable pub lines_from : List ℕ → List ℕ → List (List ℕ)
-- an empty piece completes no line
lines_from pending [] = []
-- a line feed completes the pending line, without one carriage return at its end; any other byte becomes pending
lines_from pending (byte ∷ piece) =
    if byte == 10 then strip_carriage_return pending ∷ lines_from [] piece else lines_from (pending ++ byte ∷ []) piece

-- what is pending after a piece
unfoldable pub pending_from : List ℕ → List ℕ → List ℕ
-- an empty piece changes nothing
pending_from pending [] = pending
-- after a line feed, nothing is pending; any other byte becomes pending
pending_from pending (byte ∷ piece) =
    if byte == 10 then pending_from [] piece else pending_from (pending ++ byte ∷ []) piece

-- the line that is pending at the end of the input, if there is one
unfoldable pub last_line : List ℕ → List (List ℕ)
-- if nothing is pending, there is no line
last_line [] = []
-- otherwise, all that is pending is the last line
last_line (byte ∷ bytes) = (byte ∷ bytes) ∷ []

parts_cons : (a b : List ℕ) → lines_of_parts (a ∷ slice_split (λ x. x == 10) b) ≡ strip_carriage_return a
    ∷ lines_of_parts (slice_split (λ x. x == 10) b)
parts_cons a b = let e = (split_cons 10 b).2 in rw e refl

-- the first line of a text, and the lines after it
pub lines_line : (a b : List ℕ) → HasNo 10 a → lines (a ++ 10 ∷ b) ≡ strip_carriage_return a ∷ lines b
lines_line a b h = ap lines_of_parts (split_at 10 a b refl h) ∙ parts_cons a b

pub lines_last : (a : List ℕ) → HasNo 10 a → lines a ≡ last_line a
unfolding last_line
lines_last [] h = refl
lines_last (x ∷ a) h =
    ap lines_of_parts (split_none 10 (x ∷ a) h) ∙ ap (λ v. cond v [] ((x ∷ a) ∷ [])) (eqb-suc-zero (length a))

pub newline_cases : (c : ℕ) → (c ≡ 10) ⊎ ((c == 10) ≡ false)
newline_cases c = elim (eqb_tells c 10) [ inl same ↦ inl same.1 | inr apart ↦ inr apart.0 ]

-- ---- one more byte

pub lines_other : (p xs : List ℕ) (c : ℕ) → (c == 10) ≡ false → lines_from p (c ∷ xs) ≡ lines_from (p ++ c ∷ []) xs
unfolding lines_from
lines_other p xs c e = rw e refl

pub pending_other : (p xs : List ℕ) (c : ℕ) → (c == 10) ≡ false
    → pending_from p (c ∷ xs) ≡ pending_from (p ++ c ∷ []) xs
unfolding pending_from
pending_other p xs c e = rw e refl

-- ---- one more piece

pub pending-append : (p a b : List ℕ) → pending_from p (a ++ b) ≡ pending_from (pending_from p a) b
unfolding pending_from
pending-append p [] b = refl
pending-append p (c ∷ a) b =
    elim (c == 10) as (λ v. cond v (pending_from [] (a ++ b)) (pending_from (p ++ c ∷ []) (a ++ b)) ≡ pending_from
    (cond v (pending_from [] a) (pending_from (p ++ c ∷ []) a)) b) [
      | true ↦ pending-append [] a b
      | false ↦ pending-append (p ++ c ∷ []) a b
    ]

pub lines-append : (p a b : List ℕ) → lines_from p (a ++ b) ≡ lines_from p a ++ lines_from (pending_from p a) b
unfolding lines_from pending_from
lines-append p [] b = refl
lines-append p (c ∷ a) b =
    let line = strip_carriage_return p in
    elim (c == 10) as (λ v. cond v (line ∷ lines_from [] (a ++ b)) (lines_from (p ++ c ∷ []) (a ++ b))
    ≡ cond v (line ∷ lines_from [] a) (lines_from (p ++ c ∷ []) a)
    ++ lines_from (cond v (pending_from [] a) (pending_from (p ++ c ∷ []) a)) b) [
      | true ↦ ap (λ ls. line ∷ ls) (lines-append [] a b)
      | false ↦ lines-append (p ++ c ∷ []) a b
    ]

-- ---- the whole input

push_assoc : (p xs : List ℕ) (c : ℕ) → p ++ c ∷ xs ≡ (p ++ c ∷ []) ++ xs
push_assoc p xs c = sym (append_assoc p (c ∷ []) xs)

-- the lines are the complete ones followed by what is pending
pub lines_split : (p xs : List ℕ) → HasNo 10 p → lines (p ++ xs) ≡ lines_from p xs ++ last_line (pending_from p xs)
unfolding lines_from pending_from last_line
lines_split p [] h = ap lines (append-nil p) ∙ lines_last p h
lines_split p (c ∷ xs) h = elim (newline_cases c) [
  | inl e ↦ rw e (lines_line p xs h ∙ ap (λ ls. strip_carriage_return p ∷ ls) (lines_split [] xs tt))
  | inr e ↦ ap lines (push_assoc p xs c) ∙ lines_split (p ++ c ∷ []) xs (HasNo-push 10 p c h e)
      ∙ ap₂ (λ ls m. ls ++ last_line m) (sym (lines_other p xs c e)) (sym (pending_other p xs c e))
]

any_none : (p : List ℕ) → HasNo 10 p → list_any (λ b. b == 10) p ≡ false
any_none [] h = refl
any_none (x ∷ p) h = rw h.0 (any_none p h.1)

any_line : (p xs : List ℕ) → list_any (λ b. b == 10) (p ++ 10 ∷ xs) ≡ true
any_line [] xs = refl
any_line (x ∷ p) xs = rw (any_line p xs) (or-true (x == 10))

complete_none : (p : List ℕ) → HasNo 10 p → complete_part p ≡ []
unfolding complete_part
complete_none [] h = refl
complete_none (x ∷ p) h = ap (λ v. cond v (x ∷ complete_part p) []) (any_none (x ∷ p) h)

complete_line : (p xs : List ℕ) → complete_part (p ++ 10 ∷ xs) ≡ p ++ 10 ∷ complete_part xs
unfolding complete_part
complete_line [] xs = refl
complete_line (x ∷ p) xs = ap (λ v. cond v (x ∷ complete_part (p ++ 10 ∷ xs)) []) (any_line (x ∷ p) xs)
    ∙ ap (λ l. x ∷ l) (complete_line p xs)

-- the lines of the bytes up to the last line feed are the complete ones
pub lines_complete : (p xs : List ℕ) → HasNo 10 p → lines (complete_part (p ++ xs)) ≡ lines_from p xs
unfolding lines_from
lines_complete p [] h = ap (λ l. lines (complete_part l)) (append-nil p) ∙ ap lines (complete_none p h)
lines_complete p (c ∷ xs) h = elim (newline_cases c) [
  | inl e ↦ rw e (ap lines (complete_line p xs) ∙ lines_line p (complete_part xs) h
      ∙ ap (λ ls. strip_carriage_return p ∷ ls) (lines_complete [] xs tt))
  | inr e ↦ ap (λ l. lines (complete_part l)) (push_assoc p xs c)
      ∙ lines_complete (p ++ c ∷ []) xs (HasNo-push 10 p c h e) ∙ sym (lines_other p xs c e)
]

-- ---- the first lines, whatever follows

-- one more line feed ends one more line
line_more : (read : List ℕ) → (line : List ℕ) × (lines (read ++ 10 ∷ []) ≡ lines (complete_part read) ++ line ∷ [])
unfolding lines_from pending_from last_line
line_more read =
    let line = strip_carriage_return (pending_from [] read) in (
      line,
      lines_split [] (read ++ 10 ∷ []) tt ∙ ap₂ (λ ls p. ls ++ last_line p) (lines-append [] read (10 ∷ []))
          (pending-append [] read (10 ∷ []))
          ∙ append-nil (lines_from [] read ++ line ∷ []) ∙ ap (λ ls. ls ++ line ∷ []) (sym (lines_complete [] read tt)),
    )

same_but_last : (ls ms : List (List ℕ)) (l m : List ℕ) → ls ++ l ∷ [] ≡ ms ++ m ∷ [] → ls ≡ ms
same_but_last ls ms l m e =
    let counted : length ls ≡ length ms =
    omega (arith, ap length e, length-append ls (l ∷ []), length-append ms (m ∷ [])) in
    sym (take-append_seam ls (l ∷ [])) ∙ ap₂ take counted e ∙ take-append_seam ms (m ∷ [])

-- lines that come first when a line feed ends what follows them are the complete ones
pub first_are_complete : (read : List ℕ) (asks : List (List ℕ)) (pending : List ℕ) → HasNo 10 pending
    → lines (read ++ 10 ∷ []) ≡ asks ++ lines (pending ++ 10 ∷ [])
    → lines (complete_part read) ≡ asks
first_are_complete read asks pending none same =
    let more = line_more read in
    same_but_last (lines (complete_part read)) asks more.0 (strip_carriage_return pending)
    (sym more.1 ∙ same ∙ ap (λ ls. asks ++ ls) (lines_line pending [] none))

-- ---- beginnings

pub begins_with_nothing : (a : List ℕ) → IsBeginning [] a
begins_with_nothing a = (a, refl)

-- a beginning of a is a beginning of a ++ b
pub begins_longer : (w a b : List ℕ) → IsBeginning w a → IsBeginning w (a ++ b)
begins_longer w a b h = (h.0 ++ b, ap (λ l. l ++ b) h.1 ∙ append_assoc w h.0 b)

-- if w is a beginning of b, a ++ w is a beginning of a ++ b
pub begins_after : (a w b : List ℕ) → IsBeginning w b → IsBeginning (a ++ w) (a ++ b)
begins_after a w b h = (h.0, ap (λ l. a ++ l) h.1 ∙ sym (append_assoc a w h.0))
