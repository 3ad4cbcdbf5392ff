-- The first lines of what was read, as they are returned.
use Rattle.lines.proofs.Words.{◌≡◌, ℕ, Bool, false, List, [], ◌∷◌, ◌++◌, refl, sym, ap, ◌∙◌, subst, true≢false, append-nil, append_assoc, lines, Buffered, IsFirstLine, HandsOut, AreFirst, LineEnd, LineFeed, ReturnAndLineFeed, EndOfInput}

pub next_first : (end : LineEnd) (ended : Bool) (read : List ℕ) (first : List (List ℕ)) (pending line after : List ℕ)
    → AreFirst ended read first pending → IsFirstLine end ended pending line after
    → AreFirst ended read (first ++ line ∷ []) after
next_first LineFeed ended read first pending line after h k =
    λ more e. h more e ∙ ap (λ l. first ++ l) (k more) ∙ sym (append_assoc first (line ∷ []) (lines (after ++ more)))
next_first ReturnAndLineFeed ended read first pending line after h k =
    λ more e. h more e ∙ ap (λ l. first ++ l) (k more) ∙ sym (append_assoc first (line ∷ []) (lines (after ++ more)))
next_first EndOfInput ended read first pending line after h k =
    λ more e.
    let nothing : more ≡ [] = e k.0 in
    let none : lines (after ++ []) ≡ [] = ap (λ l. lines (l ++ [])) k.1 in
    let last : lines (pending ++ []) ≡ line ∷ [] = ap lines (append-nil pending) ∙ k.2 in
    subst (λ l. lines (read ++ l) ≡ (first ++ line ∷ []) ++ lines (after ++ l)) (sym nothing)
    (h [] (λ f. refl) ∙ ap (λ l. first ++ l) last ∙ sym (append-nil (first ++ line ∷ []))
    ∙ ap (λ l. (first ++ line ∷ []) ++ l) (sym none))

-- a line that was returned is the next one
pub handed : (old new : Buffered) (read : List ℕ) (first : List (List ℕ)) (pending line : List ℕ) (end : LineEnd)
    → AreFirst old.ended read first pending → new.ended ≡ old.ended
    → (h : HandsOut new pending line end) → AreFirst new.ended read (first ++ line ∷ []) h.after
handed old new read first pending line end are same h =
    next_first end new.ended read first pending line h.after
    (subst (λ e. AreFirst e read first pending) (sym same) are) h.first

pub first_still : (ended : Bool) (read : List ℕ) (first : List (List ℕ)) (pending chunk : List ℕ)
    → AreFirst false read first pending → AreFirst ended (read ++ chunk) first (pending ++ chunk)
first_still ended read first pending chunk h =
    λ more e. ap lines (append_assoc read chunk more) ∙ h (chunk ++ more) (λ f. absurd (true≢false (sym f)))
    ∙ ap (λ l. first ++ lines l) (sym (append_assoc pending chunk more))

-- if nothing more is read, these are all of the lines
pub are_all : (ended : Bool) (read : List ℕ) (first : List (List ℕ)) (pending : List ℕ)
    → AreFirst ended read first pending → lines read ≡ first ++ lines pending
are_all ended read first pending h = ap lines (sym (append-nil read)) ∙ h [] (λ f. refl)
    ∙ ap (λ l. first ++ lines l) (append-nil pending)
